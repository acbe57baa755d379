pub mod ShortFiles
