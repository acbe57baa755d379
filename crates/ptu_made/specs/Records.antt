-- What the words of the made file mean.
use Rattle.std.specs.{Prelude.{ℕ, ◌+◌, ◌≡◌, ◌<◌, ◌≤◌, List, [], ◌∷◌}, declared.option.Option.Option}
use Rattle.tally_base.specs.declared.{header.{Header.Header, Mode.TheVariants.T2, RecordType.TheVariants.HydraHarp2T2}, event.{EventKind.TheVariants.Photon as PhotonEvent, Policy.Policy}}
use Rattle.{tally_base.specs.declared.fault.Fault.Fault, ptu_definitions.specs.{declared.records.Raw.{Raw, TheVariants.{Photon, Marker, Wrap, Reserved}}, Prefixes.each, Streams.reading}}
use Rattle.{ptu_definitions.specs.Streams.record_refusal, minimal_file.specs.ShortFiles.{short_fields, minimal_file, Timed}, ptu_made.specs.Generator.{states, gap, channel, last_time, unit}}
use Rattle.ptu_made.specs.Generator.{made_words}

-- a photon of input 1 or 2, or one wrap
abbrev pub IsPhotonOrWrap : Raw → Type 0
IsPhotonOrWrap (Photon input time dtime) = (1 ≤ input) × (input ≤ 2) × (time < unit) × (dtime ≡ 0)
IsPhotonOrWrap (Marker bits time) = ⊥
IsPhotonOrWrap (Wrap amount) = amount ≡ unit
IsPhotonOrWrap Reserved = ⊥

-- the fields of the header
abbrev pub made_header : Header
made_header = short_fields T2

-- Each photon is of the input one above its channel, and comes its gap after the one before.
unfoldable pub made_photons : ℕ → ℕ → List Timed
made_photons seed count = each (λ before state. record { kind = PhotonEvent (channel state + 1) 0; time = last_time before + gap state } ∷ []) (states count seed)

-- The made file.

-- the made file of so many photons of a seed
unfoldable pub made_file : ℕ → ℕ → List ℕ
made_file seed count = minimal_file T2 (made_words seed count)

-- why a record of the made file is refused that is read by this policy, where one is
abbrev pub made_refusal : Policy → ℕ → ℕ → Option Fault
made_refusal policy seed count = record_refusal (reading HydraHarp2T2 policy) (made_words seed count)
