-- There is room at the address in C's pointer. `pool_handles::blank_seat` makes the blank handle, which is then written there.
-- scripts/c/write_c_sides writes this file.
use Rattle.std.specs.Prelude.{None}
use Rattle.std.proofs.Common.{◌≡◌, [], ◌∷◌, ◌++◌, refl}
use Rattle.std.proofs.raw_atomic.Walks.{proved}
use base.Fraction.{full_share}
use base.Logic.{id⊢}
use base.Fml.{ftrue}
use contract.Monad.{fact}
use contract.Running.{tables}
use mir.Val.{vunit}
use prog.Wp.{WpFn}
use types.Kit.{‵, raw, ◌⊛◌, some, later, prop, ◌$◌, ◌∵◌, !, qed, done, move, drop, use1, use2, split, join, pick, await, rewrite, regoal, suffices, group, feq_i}
use types.Run.{enter, of_opd, stop, unit_lit, init, no_more, returns, assigns}
use types.ByLocal.{alloc_all, pass_all, free_all, look_at, get, through, sets, lands_as}
use borrow.Table.OneValue.{part_in}
use denote.Exit.{yes}
use denote.Laws.{Is, shows}
use denote.Memory.{part_at}
use denote.RawPtr.{Ptr, RawPtr, lies_at, room_at, in_a_block, rawptr_vals, rawptr_Tells, block_ptr}
use denote.Signature.{plain}
use denote.Steps.{heard, nothing, peeks}
use denote.Triple.Call.{calls_at}
use denote.Triple.Clauses.{lasts}
use denote.Triple.Entry.{on_entry}
use denote.Triple.Spec.{triple_of}
use denote.Triple.Table.{framed}
use denote.Triple.Walked.{Stays, walk_of, stay_dropped, Goes-dropped, ends_at}
use Rattle.lfm_c.specs.declared.pool_handles.PoolSeatHandle.{PoolSeatHandle}
use Rattle.lfm_c.specs.contracts.pool_handles.PoolSeatHandle.{the_row as R}
use Rattle.lfm_c.proofs.pool_handles.PoolSeatHandle.TheLaws as laws
use Rattle.lfm_c.specs.contracts.lfm_c_blank_pool_seat as f
use Rattle.lfm_c.proofs.lfm_c_blank_pool_seat.Statement.{statement}
use Rattle.lfm_c.proofs.lfm_c_blank_pool_seat.Code as code
use Rattle.lfm_c.specs.contracts.pool_handles.blank_seat as g
use Rattle.lfm_c.proofs.pool_handles.blank_seat.Met.{met}

abbrev stayed : Stays f.ended.signature.params f.ended.kept
stayed = (stay_dropped _ yes, tt)

pub lfm_c_blank_pool_seat_spec : {M : Type 1} → statement M
lfm_c_blank_pool_seat_spec 𝓤 𝓛 𝓜 𝓡 wired =
    let c = f.clauses 𝓛 𝓜.mem 𝓡.returns in let W = walk_of 𝓛 f.ended stayed c in let 𝓣 = tables 𝓤 𝓛.H 𝓜 𝓡 𝓡.env in
    proved 𝓛 f.ended stayed c 𝓜 𝓡 (Goes-dropped 𝓛 0 (plain (λ _. RawPtr)) yes (λ κs x w. refl), tt)
    f.Key.name code.function (code.unfolded 𝓤 𝓛.H 𝓜 𝓡 wired)
    (λ κs. (rawptr_vals, tt)) (λ κs. (rawptr_Tells, tt)) (λ κs qs bounds a x are.
    let y : Ptr → W.Ghost = λ p. ((κs, qs, bounds, (p, tt), (rawptr_vals p, tt)), x) in
    qed 𝓛 (raw (on_entry 𝓛 f.signature κs qs a (y a.0).0.4) ∷ ‵ (room_at R a.0) ∷ []) ∵ drop ! $
    in_a_block ! a.0 (λ p. room_at R p) (id⊢ 𝓤 _) (λ b o e.
    regoal ! (λ p. prop (WpFn 𝓤 𝓛.H 𝓣.C 𝓣.Λ code.function (rawptr_vals p ++ []) (W.post (y p)))) e refl $
    enter ! _ _ _ _ _ $ alloc_all ! (λ l. pass_all ! refl ((tt, tt), tt) $
    -- hypotheses: the room; the locals
    sets ! (of_opd ! (get ! refl)) refl (tt, tt) $
    let G = triple_of 𝓛 g.signature (g.spec 𝓛 𝓜.mem 𝓡.returns) in
    let z : G.Ghost = ((tt, tt, tt, tt, tt), tt) in
    nothing ! $ nothing ! $ join ! $ nothing ! $ move ! (1 ∷ 0 ∷ []) $ join ! $ use1 𝓛 (raw (G.pre z)) (id⊢ 𝓤 _) $
    calls_at ! (framed 𝓤 𝓛.H 𝓜 𝓣) G (met 𝓤 𝓛 𝓜 𝓡 (code.calls-lfm_c::pool_handles::blank_seat 𝓡.env wired)) z (no_more !) (λ v.
    use1 𝓛 (later (some (λ (h : PoolSeatHandle). (‵ ftrue ⊛ ‵ (R.own_val h (v ∷ []))) ⊛
    some (λ (ws : Unit {0}). ‵ (lasts g.ended z.0.0 z.0.3 ws) ⊛ raw (fact 𝓤 (h ≡ record { seated = None })))))) (id⊢ 𝓤 _) $
    await ! tt $ pick ! (λ h. split ! $ split ! $ drop ! $
    -- hypotheses: what the handle owns; what the call left; the room
    peeks ! R (Is R) (shows 𝓛 R) h (v ∷ []) (λ is. let good = ((laws.the_row_laws.lawful 𝓛).typed h _ is).0 in lands_as ! refl refl good $
    move ! (1 ∷ []) $ pick ! (λ ws. split ! $ drop ! $ heard ! _ (λ told.
    -- hypotheses: what the handle owns; the room
    assigns ! (of_opd ! (get ! refl)) (through ! refl (stop !)) (init ! 1 refl good) $
    sets ! (of_opd ! (unit_lit !)) refl (tt, tt) $
    returns ! (look_at ! 0 refl) $ free_all ! refl $ move ! (1 ∷ 0 ∷ []) $
    use2 𝓛 (‵ (part_at R full_share h b o)) (part_in 𝓛 R refl full_share h b o v) $
    rewrite ! 0 (λ (k : PoolSeatHandle). ‵ (lies_at R full_share (block_ptr b o) k)) told refl $
    suffices ! _ (ends_at 𝓛 f.ended stayed c (y (block_ptr b o)) vunit tt (tt, tt) (tt, tt)) $
    feq_i ! _ (vunit ∷ []) _ refl $ nothing ! $ nothing ! $ join ! $ nothing ! $ group ! 3 $ done !))))))))
