-- The reasons of faults.
use Rattle.{std.proofs.Common.{◌≡◌, true, false, arith, rules}, tally_base.specs.{declared.{slot.Slot.Slot, fault.Fault.Fault}, Faults.{is_outside, HasReason}}}

-- a fault that the bytes call for has no reason to give
pub HasReason-inside : (opening reading : Slot → Type 0) (writing memory : Type 0) (fault : Fault)
    → is_outside fault ≡ false → HasReason opening reading writing memory fault
HasReason-inside opening reading writing memory fault h = search (rules, arith)

-- reasons that follow from others
pub HasReason-follows : (opening reading opening' reading' : Slot → Type 0) (writing memory writing' memory' : Type 0) (fault : Fault)
    → ((slot : Slot) → opening slot → opening' slot) → ((slot : Slot) → reading slot → reading' slot)
    → (writing → writing') → (memory → memory') → HasReason opening reading writing memory fault → HasReason opening' reading' writing' memory' fault
HasReason-follows opening reading opening' reading' writing memory writing' memory' fault f g p q h = search (rules, arith)

-- the reason of a read, with what is known of each fault from outside
pub HasReason-with : (opening reading : Slot → Type 0) (writing memory more : Type 0) (fault : Fault) → (is_outside fault ≡ true → more)
    → HasReason opening reading writing memory fault → HasReason opening (λ slot. reading slot × more) writing memory fault
HasReason-with opening reading writing memory more fault known h = search (rules, arith)
