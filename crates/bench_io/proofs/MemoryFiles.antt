-- A file is found by its name.
use Rattle.std.proofs.Common.{◌≡◌, ◌<◌, ◌+◌, min, ℕ, zero, suc, List, [], ◌∷◌, ◌⊎◌, ◌↔◌, Bool, true, Some, length, take, drop, get_or, refl, sym, arith}
use Rattle.std.{proofs.{Common.{slice_get, rules}, Math.Seq.take-add}, specs.{declared.option.Option.Option, Str.bytes_eq}}
use Rattle.bench_io.{specs.{MemoryParts.{NamedBytes, limited}, Memory.{file_named, rest_of_file}, Given.{gave, is_over, GivesCount}}, proofs.States.over-both}
use Rattle.bench_io.proofs.States.{over-from}

pub file_named-found : (files : List NamedBytes) (i : ℕ) (name : List ℕ) (file : NamedBytes)
    → i < length files → file ≡ get_or files i file → bytes_eq file.name name ≡ true
    → file_named (drop i files) name ≡ Some (rest_of_file (slice_get files i) 0)
file_named-found [] i name file lt at same = absurd (omega arith)
file_named-found (x ∷ xs) zero name file lt at same = rw (sym at, same) refl
file_named-found (x ∷ xs) (suc i) name file lt at same = file_named-found xs i name file (omega arith) at same

rest_at : (file : Option NamedBytes) (at : ℕ) → drop at (rest_of_file file 0) ≡ rest_of_file file at
rest_at file at = search (rules, arith)

limited-none : (entry : Option ℕ) (room : ℕ) → limited entry (min 0 room) ≡ 0
limited-none entry room = search (rules, arith)

-- a read gives the next bytes, and says the end where none are left and there is room
pub given-read : (file : Option NamedBytes) (at n : ℕ) (entry : Option ℕ) (into : List ℕ) (ended now : Bool)
    → n ≡ limited entry (min (length (rest_of_file file at)) (length into)) → take n into ≡ take n (rest_of_file file at)
    → ((now ≡ true) ↔ ((n ≡ 0) × ((ended ≡ true) ⊎ (0 < length into))))
    → GivesCount (gave (take at (rest_of_file file 0)) (is_over (rest_of_file file at) ended))
    (gave (take (at + n) (rest_of_file file 0)) (is_over (rest_of_file file (at + n)) now)) n into
given-read file at n entry into ended now count bytes says = search (rules, arith, take-add, rest_at, over-both, over-from, limited-none)
