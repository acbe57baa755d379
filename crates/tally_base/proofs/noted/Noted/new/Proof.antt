-- `new` makes a value of no bytes, at the empty list.
use mathlib.Core.Path.{refl}
use mathlib.Core.List.{[], ◌∷◌}
use mir.Syntax.{a_type}
use mir.Val.{vstruct, vcons, vnil}
use mir.MapTy.{inst_fn}
use types.Kit.{‵, raw, ◌⊛◌, ◌$◌, ◌∵◌, !, qed, move, keep, split, suffices, done}
use types.Run.{no_more, and_then, returns, enter}
use types.Part.{agg}
use types.ByLocal.{alloc_all, pass_all, free_all, look_at, get, sets}
use denote.Param.{layouts}
use denote.RattleType.{owns}
use denote.Shadow.{pure_i}
use denote.Signature.{type_at}
use denote.Triple.Entry.{alive, Res}
use denote.Triple.Walked.{says, Stays, walk_of, ends_at}
use Rattle.{std.proofs.raw_atomic.Walks.proved, tally_base.proofs.noted.Noted.new.Statement.statement}
use Rattle.tally_base.specs.contracts.noted.Noted.new as f
use Rattle.tally_base.proofs.noted.Noted.new.Code as code

pub new_spec : {M : Type 1} → statement M
new_spec 𝓤 𝓛 𝓜 𝓡 wired T L =
    let En = f.ended T in
    let stayed : Stays En.signature.params En.kept = tt in
    let c = f.clauses T 𝓛 𝓜.mem 𝓡.returns in let W = walk_of 𝓛 En stayed c in
    proved 𝓛 En stayed c 𝓜 𝓡 tt
    (f.Key.name (layouts (a_type ∷ []) (T, tt))) (inst_fn (layouts (a_type ∷ []) (T, tt)) code.function) (code.unfolded 𝓤 𝓛.H 𝓜 𝓡 wired (T, tt))
    (λ κs. tt) (λ κs. tt) (λ κs qs bounds a _ are.
    let v = vstruct (vcons (vstruct vnil) vnil) in
    let r : Res En.signature κs = record { marker = record {}; items = [] } in
    let y : W.Ghost = ((κs, qs, bounds, a, tt), tt) in
    qed 𝓛 ((raw (alive 𝓛 En.signature κs qs) ⊛ ‵ (owns [] a tt)) ∷ raw ((c κs a).requires tt) ∷ []) ∵ keep ! (0 ∷ []) $ split ! $
    enter ! _ _ _ _ _ $ alloc_all ! (λ l. pass_all ! refl tt $
    sets ! (agg ! (no_more !)) refl (tt, tt) $ sets ! (agg ! (and_then ! (get ! refl) (no_more !))) refl (tt, (tt, tt)) $
    returns ! (look_at ! 0 refl) $ free_all ! refl $
    suffices ! _ (ends_at 𝓛 En stayed c y v r tt tt) $
    says ! refl $ pure_i ! ((type_at En.signature.result κs).own_val r (v ∷ [])) ((λ vss. (tt, ((λ uss. (tt, tt)), tt))), tt) (((vstruct vnil ∷ [], tt), (refl, ((tt, (refl, tt)), tt))), tt) $
    move ! (1 ∷ 2 ∷ 0 ∷ []) $ done !))
