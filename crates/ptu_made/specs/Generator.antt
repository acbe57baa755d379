-- The words of the made file: photons that a seed gives.
use Rattle.std.specs.Prelude.{ℕ, zero, suc, ◌+◌, ◌*◌, ◌/◌, ◌%◌, ◌^◌, List, [], ◌∷◌, ◌++◌, sum_by, nat_lt, if◌then◌else◌}
use Rattle.ptu_definitions.specs.Prefixes.{each}

-- the most photons of a made file
abbrev pub photon_limit : ℕ
photon_limit = 10000000

-- the state of the generator after another
abbrev pub next_state : ℕ → ℕ
next_state state = (state * 6364136223846793005 + 1442695040888963407) % 2 ^ 64

-- so many states, the first of them after the seed
unfoldable pub states : ℕ → ℕ → List ℕ
states zero seed = []
states (suc count) seed = next_state seed ∷ states count (next_state seed)

-- the high bits of a state
abbrev pub drawn : ℕ → ℕ
drawn state = state / 2 ^ 33

-- how many ticks the photon of a state comes after the one before
abbrev pub gap : ℕ → ℕ
gap state = drawn state % 512

-- the channel of the photon of a state, 0 or 1
abbrev pub channel : ℕ → ℕ
channel state = drawn state / 512 % 2

-- the time of the last of these photons, in ticks: the sum of all gaps
abbrev pub last_time : List ℕ → ℕ
last_time states = sum_by gap states

-- the ticks of one wrap
abbrev pub unit : ℕ
unit = 2 ^ 25

-- a photon's own word
abbrev pub photon_word : ℕ → ℕ → ℕ
photon_word channel time = channel * unit + time % unit

-- the words of a photon, where `before` is the time of the one before it: a wrap where a new unit has begun, and then its own word
abbrev pub photon_words : ℕ → ℕ → ℕ → List ℕ
photon_words before time channel = (if nat_lt (before / unit) (time / unit) then 0xFE000001 ∷ [] else []) ++ photon_word channel time ∷ []

-- the words of the photons of these states, where the photon before the first has this time
abbrev pub words_behind : ℕ → List ℕ → List ℕ
words_behind start states = each (λ before state. photon_words (start + last_time before) (start + (last_time before + gap state)) (channel state)) states

-- so many photons of a seed, the first of them a gap after time 0
unfoldable pub made_words : ℕ → ℕ → List ℕ
made_words seed count = words_behind 0 (states count seed)
