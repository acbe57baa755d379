-- What a plan says of one kind of tables.
use Rattle.std.specs.Prelude.{ℕ, List, [], ◌∷◌, ◌++◌, Option, is_some}
use Rattle.{toml.specs.Data.Data, tally_base.specs.Settings.PartSettings, toml_rules.specs.{Rules.{Rule, each}, Values.list_at}}

-- What a plan says of one list of tables.

-- A list of tables of a plan: its groups, its shifts, or its tables of one kind.
pub record TableList : Type 0 where
  -- the key of the list in a document
  pub key : List ℕ
  -- how many tables a plan has in it at most
  pub most : ℕ
  -- the rules on them
  pub rules : Data → List Rule

-- One kind of tables.
pub record Kind : Type 0 where
  -- the key of their list in a document
  pub key : List ℕ
  -- how many a plan has at most
  pub most : ℕ
  -- the rules on them but the last
  pub before : Data → List Rule
  -- the number of the last rule, by which each of them gives settings
  pub last : ℕ
  -- the settings that a table of the document gives
  pub read : Data → Data → Option PartSettings
  -- settings by which a table keeps as many entries as one of the kind may
  pub greatest : PartSettings

-- the tables of a kind in a document
abbrev pub tables : Kind → Data → List Data
tables kind = list_at kind.key

-- the last rule on a kind
abbrev pub last_rule : Kind → Data → Rule
last_rule kind d = each kind.last (λ table. is_some (kind.read d table)) (tables kind d)

-- the rules on a kind
abbrev pub kind_rules : Kind → Data → List Rule
kind_rules kind d = kind.before d ++ last_rule kind d ∷ []

-- the list of the tables of a kind
abbrev pub list_of_kind : Kind → TableList
list_of_kind kind = record { key = kind.key; most = kind.most; rules = kind_rules kind }
