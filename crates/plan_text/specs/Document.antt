-- What the document of a plan says as a whole, and the rules on it.
use Rattle.std.specs.{Prelude.{ℕ, ◌≤◌, Bool, nat_le, List, [], ◌∷◌, ◌++◌, length, codes, Option, None, Some, is_some, if◌then◌else◌}, List.AllByRecursion}
use Rattle.{tally_base.specs.Limits.record_limit, toml.specs.Data.{Data, get}, toml_rules.specs.{Rules.{Rule, whole, each}, Values.{list_at, may_be_tables, has_keys, number_or, second_of}}}
use Rattle.plan_text.specs.{Kinds.{first_lists, second_lists, keys_of, lists}, Version.{version, is_second}}

-- whether late events are refused
unfoldable pub order : Data → Option Bool
order d = second_of (codes "drop") (codes "stop") (get (codes "order") d)

-- whether reserved records are refused
unfoldable pub reserved : Data → Option Bool
reserved d = second_of (codes "skip") (codes "stop") (get (codes "reserved") d)

-- the greatest number of records, of what may be a table of limits
abbrev pub records_in : Option Data → Option ℕ
records_in None = Some record_limit
records_in (Some d) = if has_keys [] (codes "records" ∷ []) d then number_or record_limit 1 record_limit (get (codes "records") d) else None

-- the greatest number of records
unfoldable pub records : Data → Option ℕ
records d = records_in (get (codes "limits") d)

-- the keys of a plan, by its version
unfoldable pub known_keys : Bool → List (List ℕ)
known_keys second = codes "version" ∷ codes "order" ∷ codes "reserved" ∷ codes "limits" ∷ keys_of first_lists ++ (if second then codes "period" ∷ codes "settle" ∷ keys_of second_lists else [])

-- the document has only keys of a plan of its version
unfoldable pub has_known_keys : Data → Bool
has_known_keys d = has_keys [] (known_keys (is_second d)) d

-- an array of tables stands at the key, or nothing
unfoldable pub may_have_tables : List ℕ → Data → Bool
may_have_tables key d = may_be_tables (get key d)

-- the array at the key has at most so many members
unfoldable pub has_at_most : ℕ → List ℕ → Data → Bool
has_at_most most key d = nat_le (length (list_at key d)) most

-- rule 6: at the key of each list stands an array of tables, or nothing
unfoldable pub rule_of_lists : List (List ℕ × ℕ) → Data → Rule
rule_of_lists lists d = each 6 (λ (list : List ℕ × ℕ). may_have_tables list.0 d) lists

-- rule 7: each list has at most so many members
unfoldable pub rule_of_lengths : List (List ℕ × ℕ) → Data → Rule
rule_of_lengths lists d = each 7 (λ (list : List ℕ × ℕ). has_at_most list.1 list.0 d) lists

-- Each list has at most so many members.
abbrev pub AreShort : List (List ℕ × ℕ) → Data → Type 0
AreShort lists d = AllByRecursion (λ (list : List ℕ × ℕ). length (list_at list.0 d) ≤ list.1) lists

-- The rules on the document as a whole. Rules 6 and 7 have a test for each list of tables, in the order of the rules on them.
unfoldable pub document_rules : Data → List Rule
document_rules d =
    whole 1 (has_known_keys d)
    ∷ whole 2 (is_some (version d))
    ∷ whole 3 (is_some (order d))
    ∷ whole 4 (is_some (reserved d))
    ∷ whole 5 (is_some (records d))
    ∷ rule_of_lists lists d
    ∷ rule_of_lengths lists d
    ∷ []

-- Each list of the document has at most so many tables as a plan may have.
abbrev pub HasFewTables : Data → Type 0
HasFewTables d = AreShort lists d
