-- What each step of a header reader adds to the text of the bytes taken.
use Rattle.std.proofs.Common.{◌≡◌, ◌^◌, ◌<◌, ◌≤◌, ℕ, List, [], ◌∷◌, ◌++◌, Bool, length, take, drop, refl, sym, ap, ◌∙◌, append_assoc, append-nil, arith}
use Rattle.std.proofs.{Common.{length-append, None, Some, nat_eq, codes, if◌then◌else◌, rules}, lemmas.{Grind.flat_map-append, Bool.Decides.nat_tests}}
use Rattle.{std.proofs.lemmas.List.take_all, ptu_header.specs.{declared.{kind.TagKind.TagKind, head.TagHead.TagHead}, Kinds.{IsHead, code_of}}}
use Rattle.ptu_definitions.{specs.{TagList.{code_in, body_size, Item}, Headers.{seen, seen_preamble}}, proofs.SeenLemmas.seen_preamble-short}
use Rattle.list_out.specs.HeaderText.{body_text, head_text, head_in, kind_with, item_text, end_text, bare_end, preamble_text, preamble_lines_of, shown_text}
use Rattle.list_out.{specs.HeaderText.header_text, proofs.Growing.{item_of, items_text, item_text-cut, shown_text-none}}

-- bytes that are not too many for a header
pub header_text-short : (a : List ℕ) → length a ≤ 2 ^ 24 → header_text a ≡ shown_text a
unfolding header_text
header_text-short a fits = ap shown_text (take_all (2 ^ 24) a fits)

-- bytes that show the same have the same text
pub header_text-same : (a b : List ℕ) → length a ≤ 2 ^ 24 → length b ≤ 2 ^ 24
    → seen b ≡ seen a → seen_preamble b ≡ seen_preamble a → header_text b ≡ header_text a
unfolding shown_text
header_text-same a b short fits items preamble = header_text-short b fits ∙ rw (items, preamble) refl ∙ sym (header_text-short a short)

-- the preamble is whole
pub header_text-preamble : (a b magic version : List ℕ) → length (a ++ b) ≤ 2 ^ 24 → length a < 16 → magic ≡ take 8 (a ++ b)
    → version ≡ take 8 (drop 8 (a ++ b)) → seen_preamble (a ++ b) ≡ Some (a ++ b) → seen (a ++ b) ≡ []
    → header_text (a ++ b) ≡ header_text a ++ preamble_lines_of magic version
unfolding preamble_text shown_text
header_text-preamble a b magic version fits few magic_is version_is preamble none =
    let before : header_text a ≡ [] = header_text-short a (omega (arith, fits, length-append a b)) ∙ shown_text-none a (seen_preamble-short a few) in
    header_text-short (a ++ b) fits
    ∙ rw (before, preamble, none, magic_is, version_is) (append-nil (preamble_lines_of (take 8 (a ++ b)) (take 8 (drop 8 (a ++ b)))))

-- another item, or the same items with a longer body: the text of the bytes by that of their items
header_text-items : (a b new : List ℕ) → length (a ++ b) ≤ 2 ^ 24 → seen_preamble (a ++ b) ≡ seen_preamble a
    → items_text (seen (a ++ b)) ≡ items_text (seen a) ++ new → header_text (a ++ b) ≡ header_text a ++ new
unfolding shown_text
header_text-items a b new fits preamble grown = search (rules, arith, header_text-short, append_assoc, items_text, length-append)

kind_with-code : (kind : TagKind) → kind_with (code_of kind) ≡ kind
unfolding kind_with
kind_with-code kind = search (rules, arith)

-- the kind of a tag
pub kind_with-is : (kind : TagKind) (tag : List ℕ) → code_of kind ≡ code_in tag → kind_with (code_in tag) ≡ kind
kind_with-is kind tag e = ap kind_with (sym e) ∙ kind_with-code kind

head_in-is : (tag : List ℕ) (head : TagHead) → IsHead tag head → head_in tag ≡ head
head_in-is tag head h = rw (← h.ident, ← h.index, ← h.code, ← h.value) refl

nat_eq-flip : (a b : ℕ) → nat_eq a b ≡ nat_eq b a
nat_eq-flip a b = grind (arith, nat_tests)

body_text-nil : (kind : TagKind) → body_text kind [] ≡ []
unfolding body_text
body_text-nil kind = search (rules, arith)

pub item_text-bare : (tag : List ℕ) (head : TagHead) (kind : TagKind) → IsHead tag head
    → code_of kind ≡ code_in tag → item_text (item_of tag []) ≡ head_text head kind ++ bare_end tag
unfolding item_text
item_text-bare tag head kind h k =
    let ends : end_text (item_of tag []) ≡ bare_end tag = ap (λ b. if b then codes "\n" else []) (nat_eq-flip 0 (body_size tag)) in
    rw (kind_with-is kind tag k, head_in-is tag head h, body_text-nil kind, append-nil (head_text head kind), ends) refl

-- a tag is whole
pub header_text-tag : (a b tag : List ℕ) (head : TagHead) (kind : TagKind) → length (a ++ b) ≤ 2 ^ 24 → seen_preamble (a ++ b) ≡ seen_preamble a
    → seen (a ++ b) ≡ seen a ++ item_of tag [] ∷ [] → IsHead tag head → code_of kind ≡ code_in tag
    → header_text (a ++ b) ≡ header_text a ++ (head_text head kind ++ bare_end tag)
header_text-tag a b tag head kind fits preamble shows h k =
    header_text-items a b (head_text head kind ++ bare_end tag) fits preamble
    (ap items_text shows ∙ flat_map-append item_text (seen a) (item_of tag [] ∷ [])
    ∙ ap (λ l. items_text (seen a) ++ l) (append-nil (item_text (item_of tag [])) ∙ item_text-bare tag head kind h k))

-- an item with more of its body
item_text-longer : (tag part b added : List ℕ) (last : Bool) → length part < body_size tag → last ≡ nat_eq (length (part ++ b)) (body_size tag)
    → body_text (kind_with (code_in tag)) (part ++ b) ≡ body_text (kind_with (code_in tag)) part ++ added
    → item_text (item_of tag (part ++ b)) ≡ item_text (item_of tag part) ++ (added ++ (if last then codes "\n" else []))
unfolding item_text
item_text-longer tag part b added last cut last_is grown =
    let head = head_text (head_in tag) (kind_with (code_in tag)) in
    let end = if last then codes "\n" else [] in
    let ends : end_text (item_of tag (part ++ b)) ≡ end = ap (λ t. if t then codes "\n" else []) (sym last_is) in
    let text = body_text (kind_with (code_in tag)) part in
    ap (λ l. (head ++ body_text (kind_with (code_in tag)) (part ++ b)) ++ l) ends ∙ ap (λ l. (head ++ l) ++ end) grown
    ∙ ap (λ l. l ++ end) (sym (append_assoc head text added)) ∙ append_assoc (head ++ text) added end
    ∙ ap (λ l. l ++ (added ++ end)) (sym (item_text-cut tag part cut))

-- bytes of a body
pub header_text-body : (a b tag part added : List ℕ) (items : List Item) (last : Bool) → length (a ++ b) ≤ 2 ^ 24 → seen_preamble (a ++ b) ≡ seen_preamble a
    → seen a ≡ items ++ item_of tag part ∷ [] → seen (a ++ b) ≡ items ++ item_of tag (part ++ b) ∷ []
    → length part < body_size tag → last ≡ nat_eq (length (part ++ b)) (body_size tag)
    → body_text (kind_with (code_in tag)) (part ++ b) ≡ body_text (kind_with (code_in tag)) part ++ added
    → header_text (a ++ b) ≡ header_text a ++ (added ++ (if last then codes "\n" else []))
header_text-body a b tag part added items last fits preamble before after cut last_is grown =
    let kind = kind_with (code_in tag) in
    let end = if last then codes "\n" else [] in
    let head = head_text (head_in tag) kind in
    let own : item_text (item_of tag (part ++ b)) ≡ item_text (item_of tag part) ++ (added ++ end) = item_text-longer tag part b added last cut last_is grown in
    header_text-items a b (added ++ end) fits preamble
    (ap items_text after ∙ flat_map-append item_text items (item_of tag (part ++ b) ∷ []) ∙ ap (λ l. items_text items ++ l) (append-nil (item_text (item_of tag (part ++ b))) ∙ own)
    ∙ sym (append_assoc (items_text items) (item_text (item_of tag part)) (added ++ end))
    ∙ ap (λ l. l ++ (added ++ end)) (sym (ap items_text before ∙ flat_map-append item_text items (item_of tag part ∷ []) ∙ ap (λ l. items_text items ++ l) (append-nil (item_text (item_of tag part))))))

-- no bytes have no text
pub header_text-nil : header_text [] ≡ []
unfolding header_text shown_text seen seen_preamble
header_text-nil = refl
