-- Each handle is at the address in C's pointer. It is lent to `pool_reading::number` for a new lifetime,
-- and returned as the call left it.
-- scripts/c/write_c_sides writes this file.
use Rattle.std.proofs.Common.{ℕ, [], ◌∷◌, ◌++◌, refl, w64}
use Rattle.std.proofs.raw_atomic.Walks.{proved}
use base.Fraction.{full_share}
use base.Logic.{id⊢}
use base.Fml.{ftrue, flft, flent, fex, fsep}
use contract.Monad.{fact}
use contract.Running.{tables}
use mir.Syntax.{named}
use mir.Val.{vptr}
use prog.Wp.{WpFn}
use types.Kit.{‵, raw, ◌⊛◌, some, later, prop, ◌$◌, ◌∵◌, !, qed, done, move, drop, keep, use1, use3, split, join, fsplit, fjoin, fpack, pick, await, regoal, suffices, group}
use types.Tokens.{lft_new, lft_end}
use types.Run.{enter, of_opd, addr, stop, no_more, and_then, returns}
use types.ByLocal.{alloc_all, pass_all, free_all, look_at, get, through, sets, lands_as}
use types.SemTy.{Body}
use denote.Builtin.{u64}
use denote.Exit.{yes}
use denote.Laws.{Is, shows}
use denote.Lend.{lends_ref, ref_back}
use denote.Memory.{mem, part_at}
use denote.Plain.{uint_Lawful}
use denote.RawPtr.{Ptr, RawPtr, lies_at, in_a_block, rawptr_vals, rawptr_Tells, block_ptr}
use denote.Ref.{MutBor, MutRef}
use denote.Signature.{plain}
use denote.Steps.{heard, nothing, peeks}
use denote.Triple.Call.{calls_at}
use denote.Triple.Clauses.{lasts}
use denote.Triple.Entry.{on_entry}
use denote.Triple.Spec.{triple_of}
use denote.Triple.Table.{framed}
use denote.Triple.Walked.{Stays, walk_of, stay_dropped, Goes-dropped, ends_at}
use Rattle.lfm_c.specs.declared.pool_handles.PoolSeatHandle.{PoolSeatHandle}
use Rattle.lfm_c.specs.contracts.pool_handles.PoolSeatHandle.{the_row as first_row}
use Rattle.lfm_c.specs.PoolHandles.{TellsPoolNumber}
use Rattle.lfm_c.specs.contracts.lfm_c_pool_number as f
use Rattle.lfm_c.proofs.lfm_c_pool_number.Statement.{statement}
use Rattle.lfm_c.proofs.lfm_c_pool_number.Code as code
use Rattle.lfm_c.specs.contracts.pool_reading.number as g
use Rattle.lfm_c.proofs.pool_reading.number.Met.{met}

abbrev stayed : Stays f.ended.signature.params f.ended.kept
stayed = (stay_dropped _ yes, tt)

pub lfm_c_pool_number_spec : {M : Type 1} → statement M
lfm_c_pool_number_spec 𝓤 𝓛 𝓜 𝓡 wired =
    let c = f.clauses 𝓛 𝓜.mem 𝓡.returns in let W = walk_of 𝓛 f.ended stayed c in let 𝓣 = tables 𝓤 𝓛.H 𝓜 𝓡 𝓡.env in
    proved 𝓛 f.ended stayed c 𝓜 𝓡 (Goes-dropped 𝓛 0 (plain (λ _. RawPtr)) yes (λ κs x w. refl), tt)
    f.Key.name code.function (code.unfolded 𝓤 𝓛.H 𝓜 𝓡 wired)
    (λ κs. (rawptr_vals, tt)) (λ κs. (rawptr_Tells, tt)) (λ κs qs bounds a x are.
    let y : Ptr → W.Ghost = λ p0. ((κs, qs, bounds, (p0, tt), (rawptr_vals p0, tt)), x) in
    qed 𝓛 (raw (on_entry 𝓛 f.signature κs qs a (y a.0).0.4) ∷ ‵ (lies_at first_row full_share a.0 x) ∷ []) ∵ drop ! $
    in_a_block ! a.0 (λ p. lies_at first_row full_share p x) (id⊢ 𝓤 _) (λ b0 o0 e0.
    regoal ! (λ p0. prop (WpFn 𝓤 𝓛.H 𝓣.C 𝓣.Λ code.function (rawptr_vals p0 ++ []) (W.post (y p0)))) e0 refl $
    enter ! _ _ _ _ _ $ alloc_all ! (λ l. pass_all ! refl ((tt, tt), tt) $
    -- hypotheses: the handles; the locals
    sets ! (of_opd ! (get ! refl)) refl (tt, tt) $
    sets ! (addr ! (through ! refl (stop !))) refl (tt, tt) $
    lft_new ! tt (λ α0. let κ0 = α0 ∷ [] in move ! (1 ∷ []) $
    use1 𝓛 (later (some (λ (γ : ℕ). ‵ ((MutRef (named 0) κ0 first_row).own_val (record { ref_ptr = (b0, o0); ghost_name = γ; now = x }) (vptr b0 o0 ∷ [])) ⊛ ‵ (flent κ0 (Body (mem first_row) b0 o0 γ)))))
    (lends_ref 𝓛 first_row (named 0) κ0 x b0 o0) $ await ! tt $ pick ! (λ γ0. split ! $
    let G = triple_of 𝓛 g.signature (g.spec 𝓛 𝓜.mem 𝓡.returns) in
    let r0 : MutBor PoolSeatHandle = record { ref_ptr = (b0, o0); ghost_name = γ0; now = x } in
    let z : G.Ghost = (((κ0, tt), (full_share, tt), tt, (r0, tt), (vptr b0 o0 ∷ [], tt)), tt) in
    nothing ! $ move ! (1 ∷ 0 ∷ []) $ fjoin ! $
    nothing ! $ move ! (3 ∷ 0 ∷ []) $ join ! $ join ! $
    nothing ! $ move ! (1 ∷ 0 ∷ []) $ join ! $ use1 𝓛 (raw (G.pre z)) (id⊢ 𝓤 _) $
    calls_at ! (framed 𝓤 𝓛.H 𝓜 𝓣) G (met 𝓤 𝓛 𝓜 𝓡 (code.calls-lfm_c::pool_reading::number 𝓡.env wired)) z
    (and_then ! (get ! refl) (no_more !)) (λ v.
    use1 𝓛 (later (some (λ (u : ℕ). ((‵ (flft κ0 full_share) ⊛ ‵ ftrue) ⊛ ‵ (u64.own_val u (v ∷ []))) ⊛
    some (λ (ws : (PoolSeatHandle × Unit {0})). ‵ (lasts g.ended z.0.0 z.0.3 ws) ⊛ raw (fact 𝓤 (TellsPoolNumber x ws.0 u)))))) (id⊢ 𝓤 _) $
    await ! tt $ pick ! (λ u. split ! $ split ! $ split ! $ lft_end ! tt $
    -- hypotheses: the end of the lifetime; nothing; the result; what the call left; the right to the handle
    move ! (2 ∷ []) $ peeks ! u64 (Is u64) (shows 𝓛 u64) u (v ∷ []) (λ is. lands_as ! refl refl ((uint_Lawful 𝓛 w64).typed u _ is).0 $
    move ! (3 ∷ []) $ pick ! (λ ws. split ! $ move ! (1 ∷ []) $ heard ! _ (λ told. fsplit ! $ fsplit ! $
    -- hypotheses: the loan's last value; its borrow; nothing; the result; the end of the lifetime; nothing; the right to the
    -- handle
    move ! (4 ∷ 6 ∷ 0 ∷ []) $ use3 𝓛 (later (‵ (part_at first_row full_share ws.0 b0 o0))) (ref_back 𝓛 first_row κ0 γ0 ws.0 b0 o0) $ await ! tt $
    returns ! (look_at ! 0 refl) $ free_all ! refl $ keep ! (0 ∷ 3 ∷ []) $
    -- the fact that the clause states is joined with the handles
    nothing ! $ fpack ! (TellsPoolNumber x ws.0 u) (λ _. ftrue) told $ move ! (1 ∷ []) $ fjoin ! $
    fpack ! PoolSeatHandle (λ w. fsep (lies_at first_row full_share (block_ptr b0 o0) w) (fex (TellsPoolNumber x w u) (λ _. ftrue))) ws.0 $
    suffices ! _ (ends_at 𝓛 f.ended stayed c (y (block_ptr b0 o0)) v u (tt, tt) (tt, tt)) $ move ! (1 ∷ []) $
    nothing ! $ nothing ! $ join ! $ nothing ! $ group ! 3 $ done !))))))))))
