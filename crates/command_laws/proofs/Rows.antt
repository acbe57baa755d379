-- The commands and their outcomes at known words and bytes.
use Rattle.{std.proofs.Common.{◌≡◌, ℕ, List, [], ◌∷◌, ◌++◌, None, Some, replicate, refl, codes}, tally_base.specs.declared.slot.Slot.TheVariants.Data}
use Rattle.tally_base.specs.declared.{header.RecordType.TheVariants.HydraHarp2T3, fault.Fault.TheVariants.{Usage, OpenFault, BadMagic, TruncatedHeader}}
use Rattle.{tally_base.specs.{declared.fault.Fault.TheVariants.TruncatedRecord, RecordTypes.type_with}, ptu_definitions.specs.TagList.{name_in, code_in}}
use Rattle.ptu_definitions.specs.{TagList.{value_in, has_body, is_known}, Endings.{walk, ending}, Fields.{value_under, found_in, header_of}}
use Rattle.ptu_definitions.specs.{Headers.{header_answer, seen, seen_preamble}, Layouts.hydra_t3, Words.{counted, records_of}}
use Rattle.{list_out.specs.HeaderText.{shown_text, header_text}, file_work.specs.FileOutcomes.counts_text, ptu_cli.specs.Commands.{Count, Header, Events, Run}}
use Rattle.{ptu_cli.specs.{Commands.{Trace, Pick, Demo, number_in, request_of}, Behaviours.behaviour}, command_work.specs.Endings.outcome}

abbrev known : List ℕ
known =
    codes "PQTTTR" ++ 0 ∷ 0 ∷ codes "1.0.00" ++ 0 ∷ 0 ∷ []
    ++ codes "TTResultFormat_TTTRRecType" ++ replicate 6 0 ++ replicate 4 255 ++ 8 ∷ 0 ∷ 0 ∷ 16 ∷ 4 ∷ 3 ∷ 1 ∷ 1 ∷ replicate 4 0
    ++ codes "Header_End" ++ replicate 22 0 ++ replicate 4 255 ++ 8 ∷ 0 ∷ 255 ∷ 255 ∷ replicate 8 0

pub rows :
    (request_of (codes "count" ∷ codes "f" ∷ []) ≡ Some (Count (codes "f")))
    × (request_of (codes "header" ∷ [] ∷ []) ≡ Some (Header []))
    × (request_of (codes "Count" ∷ codes "f" ∷ []) ≡ None)
    × (request_of (codes "count" ∷ codes "f" ∷ codes "g" ∷ []) ≡ None)
    × (request_of (codes "demo" ∷ codes "00000000000000000007" ∷ codes "10000000" ∷ []) ≡ Some (Demo 7 10000000))
    × (request_of (codes "demo" ∷ codes "18446744073709551615" ∷ codes "0" ∷ []) ≡ Some (Demo 18446744073709551615 0))
    × (request_of (codes "demo" ∷ codes "18446744073709551616" ∷ codes "1" ∷ []) ≡ None)
    × (request_of (codes "demo" ∷ codes "1" ∷ codes "10000001" ∷ []) ≡ None)
    × (request_of (codes "demo" ∷ codes "1" ∷ codes "-5" ∷ []) ≡ None)
    × (request_of (codes "demo" ∷ codes "000000000000000000001" ∷ codes "1" ∷ []) ≡ None)
    × (request_of (codes "demo" ∷ [] ∷ codes "1" ∷ []) ≡ None)
    × (request_of (codes "events" ∷ codes "f" ∷ []) ≡ Some (Events (codes "f")))
    × (request_of (codes "run" ∷ codes "p" ∷ codes "f" ∷ []) ≡ Some (Run (codes "p") (codes "f")))
    × (request_of (codes "trace" ∷ codes "p" ∷ codes "f" ∷ []) ≡ Some (Trace (codes "p") (codes "f")))
    × (request_of (codes "pick" ∷ codes "p" ∷ codes "012" ∷ codes "f" ∷ []) ≡ Some (Pick (codes "p") 12 (codes "f")))
    × (request_of (codes "pick" ∷ [] ∷ codes "18446744073709551615" ∷ [] ∷ []) ≡ Some (Pick [] 18446744073709551615 []))
    × (request_of (codes "pick" ∷ [] ∷ codes "18446744073709551616" ∷ [] ∷ []) ≡ None)
    × (request_of (codes "pick" ∷ codes "p" ∷ codes "first" ∷ codes "f" ∷ []) ≡ None)
    × (request_of (codes "pick" ∷ codes "p" ∷ codes "1" ∷ []) ≡ None)
    × (outcome (behaviour None) None None ≡ record { text = []; fault = Some Usage })
    × (outcome (behaviour (Some (Count []))) None None ≡ record { text = []; fault = Some (OpenFault Data) })
    × (outcome (behaviour (Some (Count []))) None (Some (known ++ 1 ∷ 0 ∷ 0 ∷ 0 ∷ 9 ∷ 9 ∷ [])) ≡ record { text = []; fault = Some (TruncatedRecord 2) })
    × (outcome (behaviour (Some (Header []))) None (Some (codes "PQ")) ≡ record { text = []; fault = Some (TruncatedHeader 2) })
    × (outcome (behaviour (Some (Header []))) None (Some (codes "PQTTTS")) ≡ record { text = []; fault = Some BadMagic })
    × (outcome (behaviour (Some (Count []))) None (Some (known ++ 1 ∷ 0 ∷ 0 ∷ 0 ∷ [])) ≡ record {
      text = counts_text (record { record_type = HydraHarp2T3; count = None; global = None; resolution = None; version = codes "1.0.00" ++ 0 ∷ 0 ∷ [] })
          (record { records = 1; photons = 1; markers = 0; wraps = 0; reserved = 0 });
      fault = None;
    })
unfolding number_in outcome header_answer ending walk name_in code_in value_in has_body is_known value_under
    found_in header_of type_with counted records_of hydra_t3 counts_text header_text shown_text seen seen_preamble
rows = (refl, refl, refl, refl, refl, refl, refl, refl, refl, refl, refl, refl, refl, refl, refl, refl, refl, refl, refl, refl, refl, refl, refl, refl, refl)
