-- One row more.
use Rattle.std.proofs.Common.{◌≡◌, ◌∙◌, ℕ, zero, suc, ◌+◌, ◌-◌, ◌^◌, ◌<◌, ◌≤◌, List, [], ◌∷◌, ◌++◌, length, get_or, set, take, drop, ap, refl, sym, arith}
use Rattle.std.proofs.Common.{length-append, length-take-le, get_or-take, get_or-append-add, append_assoc, append-nil, ◌⊎◌, ⊎_elim, rules}
use Rattle.{std.proofs.lemmas.{Grind.common_steps, List.get_or-set_same}, tally_base.specs.declared.event.{Event.Event, EventKind.EventKind}}
use Rattle.tally_base.specs.{declared.block.Block.Block, Codes.{code_of, dtime_of, kind_of, joined, code_in, dtime_in, IsByte}, Columns.{row, rows, event_at}}
use Rattle.tally_base.specs.Columns.{event_by, gathered}
use lib.ListN.{get_or-append}

pub length-rows : {A : Type 0} (f : ℕ → A) (n : ℕ) → length (rows f n) ≡ n
length-rows f zero = refl
length-rows f (suc n) = omega (arith, length-append (rows f n) (f n ∷ []), length-rows f n)

-- a block of no events
pub gathered-none : {N : ℕ} (b : Block N) → b.len ≡ 0 → gathered b ≡ []
gathered-none b none = ap (rows (event_at b)) none

pub same-rows : {A : Type 0} (f g : ℕ → A) (n : ℕ) → ((i : ℕ) → i < n → f i ≡ g i) → rows f n ≡ rows g n
same-rows f g zero same = refl
same-rows f g (suc n) same = rw (same-rows f g n (λ i lt. same i (omega (arith, lt))), same n (omega arith)) refl

pub kind-again : (kind : EventKind) → IsByte kind → kind_of (code_of kind) (dtime_of kind) ≡ kind
kind-again kind byte = search (rules, arith)

pub more_rows : {A : Type 0} (f : ℕ → A) (n : ℕ) → rows f (n + 1) ≡ rows f n ++ f n ∷ []
more_rows f n = let e : n + 1 ≡ suc n = omega arith in rw e refl

here : (xs : List ℕ) (n v : ℕ) → n < length xs → get_or (set xs n v) n 0 ≡ v
here xs n v inside = get_or-set_same xs n v 0 inside

other : (xs : List ℕ) (n i v : ℕ) → i < n → get_or (set xs n v) i 0 ≡ get_or xs i 0
other xs n i v lt = grind (arith, common_steps)

-- the parts of what was joined
pub code-again : (code dtime : ℕ) → code < 2 ^ 16 → code_in (joined code dtime) ≡ code
code-again code dtime few = omega (arith, few)

pub dtime-again : (code dtime : ℕ) → code < 2 ^ 16 → dtime_in (joined code dtime) ≡ dtime
dtime-again code dtime few = omega (arith, few)

pub kind-joined : (code dtime : ℕ) → code < 2 ^ 16 → kind_of (code_in (joined code dtime)) (dtime_in (joined code dtime)) ≡ kind_of code dtime
kind-joined code dtime few = rw (code-again code dtime few, dtime-again code dtime few) refl

-- the rows before one that is written
pub rows-before : (places times marks : List ℕ) (n place time mark : ℕ)
    → rows (row (set places n place) (set times n time) (set marks n mark)) n ≡ rows (row places times marks) n
rows-before places times marks n place time mark = search (rules, arith, same-rows, other)

-- with the row that is written
pub rows-written : (places times marks : List ℕ) (n place time mark : ℕ)
    → n < length places → n < length times → n < length marks
    → rows (row (set places n place) (set times n time) (set marks n mark)) (n + 1)
    ≡ rows (row places times marks) n ++ event_by place (code_in mark) (dtime_in mark) time ∷ []
rows-written places times marks n place time mark in1 in2 in3 = search (rules, arith, rows-before, here, more_rows)

pub rows-push : (places times marks : List ℕ) (n place time mark code dtime : ℕ) (e : Event)
    → n < length places → n < length times → n < length marks → mark ≡ joined code dtime → code < 2 ^ 16
    → IsByte e.kind → place ≡ e.place → time ≡ e.time → code ≡ code_of e.kind → dtime ≡ dtime_of e.kind
    → rows (row (set places n place) (set times n time) (set marks n mark)) (n + 1) ≡ rows (row places times marks) n ++ e ∷ []
rows-push places times marks n place time mark code dtime e in1 in2 in3 is few byte p t c d = search (rules, arith, kind-again, kind-joined, rows-written)

-- the first rows of other columns, copied after the rows that stand

abbrev pub copied : ℕ → ℕ → List ℕ → List ℕ → List ℕ
copied start front column other = take start column ++ (take front other ++ drop (start + front) column)

-- a column before the part that is copied, and in it
before-part : (n m : ℕ) (xs zs : List ℕ) (i : ℕ) → i < n → n ≤ length xs → get_or (copied n m xs zs) i 0 ≡ get_or xs i 0
before-part n m xs zs i lt inside =
    get_or-append (take n xs) (take m zs ++ drop (n + m) xs) 0 i (omega (arith, length-take-le n xs inside, lt)) ∙ get_or-take n xs i 0 lt

in-part : (n m : ℕ) (xs zs : List ℕ) (i : ℕ) → i < m → n ≤ length xs → m ≤ length zs → get_or (copied n m xs zs) (n + i) 0 ≡ get_or zs i 0
in-part n m xs zs i lt inside few =
    let many : i < length (take m zs) = omega (arith, length-take-le m zs few, lt) in
    ap (λ k. get_or (copied n m xs zs) (k + i) 0) (sym (length-take-le n xs inside)) ∙ get_or-append-add (take n xs) (take m zs ++ drop (n + m) xs) i 0 ∙ get_or-append (take m zs) (drop (n + m) xs) 0 i many ∙ get_or-take m zs i 0 lt

-- rows of which the first are those of one, and the next those of another
rows-joined : {A : Type 0} (f g h : ℕ → A) (n m : ℕ) → ((i : ℕ) → i < n → h i ≡ f i)
    → ((i : ℕ) → i < m → h (n + i) ≡ g i) → rows h (n + m) ≡ rows f n ++ rows g m
rows-joined f g h n zero first next = let e : n + zero ≡ n = omega arith in ap (rows h) e ∙ same-rows h f n first ∙ sym (append-nil (rows f n))
rows-joined f g h n (suc m) first next =
    let e : n + suc m ≡ (n + m) + 1 = omega arith in
    let before = rows-joined f g h n m first (λ i lt. next i (omega (arith, lt))) in
    let last : h (n + m) ≡ g m = next m (omega arith) in
    ap (rows h) e ∙ more_rows h (n + m) ∙ rw (before, last) (append_assoc (rows f n) (rows g m) (g m ∷ []))

-- each column of the first rows, after those that stand, of which the first so many are events
pub rows-copied : (places times marks ps ts ms p2 t2 m2 : List ℕ) (n m k : ℕ) → k ≤ m
    → n ≤ length places → n ≤ length times → n ≤ length marks → m ≤ length ps → m ≤ length ts → m ≤ length ms
    → p2 ≡ copied n m places ps → t2 ≡ copied n m times ts → m2 ≡ copied n m marks ms
    → rows (row p2 t2 m2) (n + k) ≡ rows (row places times marks) n ++ rows (row ps ts ms) k
rows-copied places times marks ps ts ms p2 t2 m2 n m k le in1 in2 in3 few1 few2 few3 is1 is2 is3 =
    rw (is1, is2, is3) (rows-joined (row places times marks) (row ps ts ms) (row (copied n m places ps) (copied n m times ts) (copied n m marks ms)) n k
    (λ i lt. rw (before-part n m places ps i lt in1, before-part n m times ts i lt in2, before-part n m marks ms i lt in3) refl)
    (λ i lt. let few : i < m = omega (arith, lt, le) in rw (in-part n m places ps i few in1 few1, in-part n m times ts i few in2 few2, in-part n m marks ms i few in3 few3) refl))

-- the rows up to one, and those after it
pub rows-split : {A : Type 0} (f : ℕ → A) (i n : ℕ) → i ≤ n → (back : List A) × (rows f n ≡ rows f i ++ back)
rows-split f i zero few = let e : i ≡ zero = omega (arith, few) in ([], rw e refl)
rows-split f i (suc n) few =
    ⊎_elim
    (λ (is : i ≡ suc n). ([], rw (is, append-nil) refl))
    (λ (less : i ≤ n).
    let rest = rows-split f i n less in
    (rest.0 ++ f n ∷ [], rw rest.1 (append_assoc (rows f i) rest.0 (f n ∷ []))))
    (all_or i n few)
  where
    all_or : (i n : ℕ) → i ≤ suc n → (i ≡ suc n) ⊎ (i ≤ n)
    all_or i n few = grind (arith, few)

-- the first row
pub rows-first : {A : Type 0} (f : ℕ → A) (n : ℕ) → 0 < n → (rest : List A) × (rows f n ≡ f 0 ∷ rest)
rows-first f n some =
    let one : 1 ≤ n = omega (arith, some) in
    let split = rows-split f 1 n one in
    (split.0, split.1)

-- the last row
pub rows-last : {A : Type 0} (f : ℕ → A) (n : ℕ) → 0 < n → rows f n ≡ rows f (n - 1) ++ f (n - 1) ∷ []
rows-last f n some = let one : n ≡ (n - 1) + 1 = omega (arith, some) in ap (rows f) one ∙ more_rows f (n - 1)
