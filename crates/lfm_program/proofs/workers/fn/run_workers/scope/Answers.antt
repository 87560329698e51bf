use Rattle.std.proofs.Common.{arith, rules, ap, sym, subst, ◌∙◌, ◌≡◌, ◌<◌, ◌+◌, ◌∷◌, ℕ, suc, length}
use mathlib.Core.Option.{some, some-ne-none}
use lib.ListN.{get_elem?}
use Rattle.std.specs.Vec.Iter.{into_iter_items}
use denote.Exit.{no}
use denote.Param.{arg}
use denote.Param.Send as Send
use denote.Ref.{NamedLft}
use denote.Struct.Tuple as Tuple
use mir.Syntax.{named}
use Rattle.std.specs.Prelude.{codes}
use Rattle.lfm_monitor.proofs.Places.{each_more, stands}
use Rattle.lfm_program.specs.Workers.{WorksAs}
use Rattle.lfm_program.proofs.Sending.{held, held_send, worked_send}
use Rattle.lfm_program.proofs.Threads.{both_ok, if_ok}
use Rattle.lfm_program.proofs.workers.fn.run_workers.scope.Goals as goal

pub starting-init : goal.starting-init
starting-init g c = let from = c.into_iter-pass-iterator.ensures.into_iter_gives.0 in let ps = c.captures.passes in let none = c.in-Ok.ensures.items in record {
  long = (let l = c.into_iter-pass-iterator.ensures.into_iter_gives.1 in let a = ap length from in let q = ps.ok in omega arith);
  size = (let a = ap length none in omega arith);
  scripts = (let a = ap length from in let q = ps.ok in let n = c.requires.count in omega arith);
  room = c.in-Ok.ensures.capacity;
  rest = λ i p at. let e : length c.in-Ok.handles.items + i ≡ i = (let a = ap length none in omega arith) in
      subst (λ (n : ℕ). get_elem? (into_iter_items c.into_iter-pass-iterator.result) n ≡ some p) (sym e) at;
  handles = λ j h at. absurd (some-ne-none h (sym at ∙ ap (λ l. get_elem? l j) none));
}

pub bounds-scripts-len : goal.bounds-scripts-len
bounds-scripts-len g c = let i = c.starting.invariant in let steps : into_iter_items c.starting.pass-iterator ≡ c.in-Some.pass ∷ into_iter_items c.next.new.self = c.in-Some.ensures.steps.0 in
    let a = ap length steps in let b = i.size in let d = i.scripts in let e = c.len.ensures in let f = c.starting.handles.ok in omega arith

pub spawn_with-started-requires-clause-runs : goal.spawn_with-started-requires-clause-runs
spawn_with-started-requires-clause-runs g c κs within = let i = c.starting.invariant in let p = c.in-Some.pass in
    let steps : into_iter_items c.starting.pass-iterator ≡ p ∷ into_iter_items c.next.new.self = c.in-Some.ensures.steps.0 in
    let from = c.into_iter-pass-iterator.ensures.into_iter_gives.0 in let at = i.rest 0 p (ap (λ l. get_elem? l 0) steps) in
    let ready = c.requires.ready (length c.starting.handles.items + 0) p (sym (ap (λ l. get_elem? l (length c.starting.handles.items + 0)) from) ∙ at) in (ready, search rules)

pub spawn_with-started-requires-send-F : goal.spawn_with-started-requires-send-F
spawn_with-started-requires-send-F g c κs within =
    let places : NamedLft × NamedLft × NamedLft × NamedLft × NamedLft = (
      record { mir = named 6; lft = κs.1.1.1.1.1.1.0 },
      record { mir = named 7; lft = κs.1.1.1.1.1.1.1.0 },
      record { mir = named 8; lft = κs.1.1.1.1.1.1.1.1.0 },
      record { mir = named 9; lft = κs.1.1.1.1.1.1.1.1.1.0 },
      record { mir = named 10; lft = κs.1.1.1.1.1.1.1.1.1.1.0 },
    ) in
    let name = codes "lfm_program::workers::fn::run_workers::fn::scope::spawn_with+Self" in let holds = Tuple.TupleAt name (held places g.row.R g.row.G) in
    Send.param_send 2 (arg _ no holds) (Send.arg_send _ no holds (held_send name places g.row.R g.row.G (search rules) (search rules)))

pub spawn_with-started-requires-send-T : goal.spawn_with-started-requires-send-T
spawn_with-started-requires-send-T g c κs within = Send.param_send _ _ (Send.arg_send _ no _ worked_send)

pub push_reserved-requires : goal.push_reserved-requires
push_reserved-requires g c = let i = c.starting.invariant in let steps : into_iter_items c.starting.pass-iterator ≡ c.in-Some.pass ∷ into_iter_items c.next.new.self = c.in-Some.ensures.steps.0 in
    let a = ap length steps in let b = i.size in let d = i.scripts in let e = i.room in let f = c.starting.handles.ok in omega arith

pub starting-preserved : goal.starting-preserved
starting-preserved g c = let i = c.starting.invariant in let p = c.in-Some.pass in let hs = c.starting.handles in
    let steps : into_iter_items c.starting.pass-iterator ≡ p ∷ into_iter_items c.next.new.self = c.in-Some.ensures.steps.0 in
    let more = ap length c.push_reserved.ensures.items in let made = c.in-Ok-started.ensures.ok in
    let at_length : c.len.result ≡ length hs.items = (let e = c.len.ensures in let f = hs.ok in omega arith) in
    let within : c.len.result < length c.captures.scripts.now = (let a = ap length steps in let b = i.size in let d = i.scripts in omega arith) in
    let last : length hs.items + 0 ≡ length hs.items = omega arith in let ps = into_iter_items c.into_iter-pass-iterator.result in
    let here : (c.in-Ok-started.handle.promise.monitor.value ≡ c.captures.monitor.now) × (get_elem? ps (length hs.items) ≡ some c.in-Ok-started.handle.promise.pass.value)
    × (get_elem? c.captures.scripts.now (length hs.items) ≡ some c.in-Ok-started.handle.promise.commands.value) × (c.in-Ok-started.handle.promise.gate.value ≡ c.captures.gate.now) = (
      ap (λ a. a.monitor.value) made ∙ c.of.ensures,
      subst (λ (n : ℕ). get_elem? ps n ≡ some p) last (i.rest 0 p (ap (λ l. get_elem? l 0) steps)) ∙ ap some (sym (ap (λ a. a.pass.value) made ∙ c.of-in-starting.ensures)),
      subst (λ (n : ℕ). get_elem? c.captures.scripts.now n ≡ some c.index-scripts-len.result) at_length
          (stands c.captures.scripts.now c.len.result c.index-scripts-len.result within c.index-scripts-len.is)
          ∙ ap some (sym (ap (λ a. a.commands.value) made ∙ c.of-in-starting-2.ensures)),
      ap (λ a. a.gate.value) made ∙ c.of-in-starting-3.ensures,
    ) in record {
      long = (let a = i.long in let b = c.in-Some.ensures.steps.1 in let d = ap length steps in omega arith);
      size = (let a = ap length steps in let z = i.size in omega arith);
      scripts = i.scripts;
      room = (let a = c.push_reserved.ensures.capacity in let b = i.room in omega arith);
      rest = λ k q at. let was = i.rest (suc k) q (ap (λ l. get_elem? l (suc k)) steps ∙ at) in let e : length hs.items + suc k ≡ length c.push_reserved.new.self.items + k = omega arith in
          subst (λ (n : ℕ). get_elem? (into_iter_items c.into_iter-pass-iterator.result) n ≡ some q) e was;
      handles = λ j h at. each_more (λ j h. (h.promise.monitor.value ≡ c.captures.monitor.now) × (get_elem? (into_iter_items c.into_iter-pass-iterator.result) j ≡ some h.promise.pass.value)
          × (get_elem? c.captures.scripts.now j ≡ some h.promise.commands.value) × (h.promise.gate.value ≡ c.captures.gate.now)) hs.items c.push_reserved.new.self.items c.in-Ok-started.handle c.push_reserved.ensures.items i.handles here j h at;
    }

pub returns : goal.returns
returns g c = record {
  memory = c.join_all.ensures.memory;
  count = if_ok _ _ c.join_all.result (λ v e. e.0 ∙ e.1) c.join_all.ensures.count;
  each = both_ok _ _ _ c.join_all.result (λ v _ each j w at. let e = each j w at in let h = e.0 in let k = c.starting.invariant.handles j h e.1 in let from = c.into_iter-pass-iterator.ensures.into_iter_gives.0 in (
    h.promise.pass.value,
    h.promise.commands.value,
    sym (ap (λ l. get_elem? l j) from) ∙ k.1,
    k.2,
    subst (λ m. WorksAs m (g.G.Gate.stops c.captures.gate.now) h.promise.commands.value.items h.promise.pass.value w.pass w.end) k.0
        (subst (λ x. WorksAs h.promise.monitor.value (g.G.Gate.stops x) h.promise.commands.value.items h.promise.pass.value w.pass w.end) k.3 e.2),
  )) c.join_all.ensures.count c.join_all.ensures.each;
}
