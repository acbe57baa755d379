-- An empty body. The borrow is opened, and closed at another ghost value.
use Rattle.{std.proofs.{Common.{◌++◌, refl}, raw_atomic.Walks.proved}, tally_base.specs.contracts.noted.Noted.the_row}
use Rattle.tally_base.proofs.noted.Noted.note.Statement.{statement}
use mathlib.Core.List.{[], ◌∷◌}
use base.Fml.{ftrue, flft}
use base.Logic.{id⊢}
use mir.Syntax.{named, a_type}
use mir.MapTy.{inst_fn}
use mir.Val.{vunit}
use types.Kit.{‵, raw, ◌⊛◌, ◌$◌, ◌∵◌, !, qed, move, keep, use1, split, join, fsplit3, feq_i, frame, group, suffices, done}
use types.Run.{of_opd, unit_lit, returns, enter}
use types.ByLocal.{alloc_all, pass_all, free_all, look_at, sets}
use denote.Exit.{yes}
use denote.Param.{param, layouts}
use denote.RattleType.{RattleType}
use denote.Ref.{MutRef, mut_vals, mut_Tells}
use denote.Signature.{plain}
use denote.Slice.{ShrSlice, shr_slice_vals, shr_slice_Tells}
use denote.Steps.{nothing, opens, closes}
use denote.Triple.Walked.{says, Stays, stay_ref, stay_none_slice, Goes-ref, Goes-none_slice, walk_of, ends_at}
use Rattle.tally_base.specs.contracts.noted.Noted.note as f
use Rattle.tally_base.proofs.noted.Noted.note.Code as code

pub note_spec : {M : Type 1} → statement M
note_spec 𝓤 𝓛 𝓜 𝓡 wired T L =
    let E : RattleType = param 0 T in
    let R : RattleType = the_row E in
    let En = f.ended T in
    let stayed : Stays En.signature.params En.kept = (stay_ref (0 ∷ []) tt (plain (λ _. R)), (stay_none_slice (1 ∷ []) tt (plain (λ _. E)) yes, tt)) in
    let c = f.clauses T 𝓛 𝓜.mem 𝓡.returns in let W = walk_of 𝓛 En stayed c in
    proved 𝓛 En stayed c 𝓜 𝓡 (Goes-ref 𝓛 3 0 tt (plain (λ _. R)), (Goes-none_slice 𝓛 3 (1 ∷ []) tt (plain (λ _. E)) yes, tt))
    (f.Key.name (layouts (a_type ∷ []) (T, tt))) (inst_fn (layouts (a_type ∷ []) (T, tt)) code.function) (code.unfolded 𝓤 𝓛.H 𝓜 𝓡 wired (T, tt))
    (λ κs. (mut_vals, (shr_slice_vals, tt))) (λ κs. (mut_Tells (named 0) κs.0 R, (shr_slice_Tells (named 1) κs.1.0 E, tt))) (λ κs qs bounds a _ are.
    let b = a.0.ref_ptr.0 in let o = a.0.ref_ptr.1 in let h = a.0.now in let vs = mut_vals a.0 in let s = a.1.0 in let us = shr_slice_vals s in
    let h' : R.Denot = record { marker = h.marker; items = h.items ++ s.now } in
    let y : W.Ghost = ((κs, qs, bounds, a, (vs, (us, tt))), tt) in
    qed 𝓛 (((‵ (flft κs.0 qs.0) ⊛ (‵ (flft κs.1.0 qs.1.0) ⊛ (‵ (flft κs.1.1.0 qs.1.1.0) ⊛ ‵ ftrue))) ⊛ ‵ ((MutRef (named 0) κs.0 R).own_val a.0 vs) ⊛ ‵ ((ShrSlice (named 1) κs.1.0 E).own_val s us) ⊛ ‵ ftrue) ∷ raw ((c κs a).requires tt) ∷ []) ∵
    split ! $ split ! $ move ! (1 ∷ []) $ split ! $ move ! (1 ∷ []) $ split ! $ move ! (4 ∷ []) $ split ! $ move ! (1 ∷ []) $ split ! $ keep ! (2 ∷ 6 ∷ 0 ∷ 5 ∷ 3 ∷ []) $
    -- [the reference; its token; the slice; its token; the token of the items]
    enter ! _ _ _ _ _ $ alloc_all ! (λ l. pass_all ! refl ((tt, tt), ((tt, (tt, (record { fits = are.1.0.0.1.0 }, tt))), tt)) $
    fsplit3 ! $ move ! (1 ∷ 2 ∷ 3 ∷ []) $ opens ! tt R {h = h} b o (λ vs'.
    sets ! (of_opd ! (unit_lit !)) refl (tt, tt) $
    move ! (1 ∷ []) $ use1 𝓛 (‵ (R.own_val h' vs')) (id⊢ 𝓤 _) $ move ! (1 ∷ 0 ∷ []) $ closes ! tt R h' vs' b o $
    returns ! (look_at ! 0 refl) $ free_all ! refl $
    -- [two parts of the reference; its token; its first part; the slice; its token; the token of the items]
    move ! (3 ∷ []) $ suffices ! _ (ends_at 𝓛 En stayed c y vunit tt (h', (tt, tt)) (tt, (tt, tt))) $ says ! refl $
    group ! 3 $ nothing ! $ move ! (3 ∷ 0 ∷ []) $ join ! $ move ! (1 ∷ 0 ∷ []) $ join ! $
    nothing ! $ move ! (4 ∷ 0 ∷ []) $ join ! $ move ! (3 ∷ 0 ∷ []) $ join ! $ move ! (2 ∷ 0 ∷ []) $ join ! $ frame ! $ frame ! $
    feq_i ! _ (vunit ∷ []) _ refl $ done !)))
