pub mod ShortHeaders
