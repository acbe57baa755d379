use Rattle.std.{proofs.{Common.{◌≡◌, ap, ◌∙◌, take, drop, arith, ◌≤◌, ℕ, List, [], ◌∷◌, length, refl}, lemmas.{List.length-drop, Int.of_z-to_z}}, specs.Int.w32}
use Rattle.{std.specs.Int.{cast_signed, cast_unsigned}, byteorder.specs.Endian.little_number, ptu_definitions.specs.TagList.{index_in, code_in, value_in}}
use Rattle.ptu_definitions.specs.TagList.{little}
use Rattle.ptu_header.proofs.head.TagHead.read.Goals as goal

-- little-endian numbers as the reader of numbers gives them
little-4 : (bytes : List ℕ) → 4 ≤ length bytes → little_number 4 bytes ≡ little (take 4 bytes)
little-4 [] h = absurd (omega arith)
little-4 (a ∷ []) h = absurd (omega arith)
little-4 (a ∷ b ∷ []) h = absurd (omega arith)
little-4 (a ∷ b ∷ c ∷ []) h = absurd (omega arith)
little-4 (a ∷ b ∷ c ∷ d ∷ more) h = refl

little-8 : (bytes : List ℕ) → 8 ≤ length bytes → little_number 8 bytes ≡ little (take 8 bytes)
little-8 [] h = absurd (omega arith)
little-8 (a ∷ []) h = absurd (omega arith)
little-8 (a ∷ b ∷ []) h = absurd (omega arith)
little-8 (a ∷ b ∷ c ∷ []) h = absurd (omega arith)
little-8 (a ∷ b ∷ c ∷ d ∷ []) h = absurd (omega arith)
little-8 (a ∷ b ∷ c ∷ d ∷ e ∷ []) h = absurd (omega arith)
little-8 (a ∷ b ∷ c ∷ d ∷ e ∷ f ∷ []) h = absurd (omega arith)
little-8 (a ∷ b ∷ c ∷ d ∷ e ∷ f ∷ g ∷ []) h = absurd (omega arith)
little-8 (a ∷ b ∷ c ∷ d ∷ e ∷ f ∷ g ∷ i ∷ more) h = refl

pub returns : goal.returns
unfolding index_in code_in value_in
returns c =
    let bytes = c.args.bytes.now in
    let same : c.as_slice-bytes.result.now ≡ bytes = c.as_slice-bytes.ensures in
    let index : c.read_u32-index.result ≡ index_in bytes = c.read_u32-index.ensures
    ∙ ap (little_number 4) (c.split_at-2.ensures.back ∙ ap (drop 32) same) ∙ little-4 (drop 32 bytes) (omega (arith, length-drop 32 bytes)) in
    record {
      ident = c.copy_from_slice.ensures.after ∙ c.split_at.ensures.front ∙ ap (take 32) same;
      index = ap (cast_signed w32) (ap (cast_unsigned w32) c.cast_signed.ensures ∙ of_z-to_z w32 c.read_u32-index.result c.read_u32-index.type_inv ∙ index);
      code = c.read_u32-code.ensures ∙ ap (little_number 4) (c.split_at-3.ensures.back ∙ ap (drop 36) same)
          ∙ little-4 (drop 36 bytes) (omega (arith, length-drop 36 bytes));
      value = c.read_u64-value.ensures ∙ ap (little_number 8) (c.split_at-4.ensures.back ∙ ap (drop 40) same)
          ∙ little-8 (drop 40 bytes) (omega (arith, length-drop 40 bytes));
    }
