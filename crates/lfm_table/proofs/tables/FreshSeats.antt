-- What is known of a seat that has done nothing.
use Rattle.std.proofs.Common.{◌≡◌, ℕ, ◌<◌, ◌≤◌, [], sym, refl, subst, Option, Some, None}
use Rattle.lfm_table.specs.Table.{Me}
use Rattle.lfm_protocol.specs.declared.limits.Limits.{Limits}
use Rattle.lfm_protocol.specs.declared.seats.SeatState.{SeatState}
use Rattle.lfm_protocol.specs.Seats.{absent}
use Rattle.lfm_laws.proofs.table.Ready.{packs_none, packs_unposted}
use Rattle.lfm_laws.specs.table.Ready.{IsReady}
use Rattle.lfm_table.specs.declared.seat_view.Role.TheVariants.{User}
use Rattle.lfm_table.specs.declared.seat_view.View.{View}
use Rattle.lfm_table.specs.declared.rule.Moving.{Moving}
use Rattle.lfm_table.specs.Seats.{Seated}
use Rattle.lfm_table.specs.Settled.{Became}
use Rattle.lfm_table.proofs.tables.SettledKept.{became_same}

ready_absent : (seats s : ℕ) → 0 < s → s ≤ seats → IsReady seats s absent
ready_absent seats s above within = record { numbers = tt; above = above; within = within; stored_link = packs_none; expected_push = packs_none; exchanged_push = packs_none; stored_handoff = packs_unposted; expected_handoff = packs_unposted; stored_wake = tt }

module _ {T : Type 0} (words id number : ℕ) (l : Limits) (p : SeatState) (m : Me (Option (Moving T)) (View T)) (is : p ≡ absent) (user : m.0.role ≡ User) (named : m.0.number ≡ number) (limits_are : m.0.limits ≡ l) (hand : m.1 ≡ []) (stands : m.0.state ≡ absent) where
  no_value : (x : Moving T) → ◌≡◌ {A = Option (Moving T)} None (Some x) → ⊥
  no_value x e = absurd (cc)

  pub fresh_seated : Seated number l p m None
  fresh_seated = subst (λ (q : SeatState). Seated number l q m None) (sym is) record {
    user = user;
    named = named;
    limits_are = limits_are;
    hand = hand;
    moved = refl;
    listed = λ x e. absurd (no_value x e);
    room = λ x e. absurd (no_value x e);
    kept = λ flat x e. absurd (no_value x e);
  }

  pub fresh_became : Became m.0.state l p
  fresh_became = subst (λ (t : SeatState × SeatState). Became t.0 l t.1) (λ i. (sym stands i, sym is i)) (became_same absent l)

  pub fresh_ready : 0 < number → number ≤ l.seats → IsReady l.seats number p
  fresh_ready above within = subst (λ (q : SeatState). IsReady l.seats number q) (sym is) (ready_absent l.seats number above within)
