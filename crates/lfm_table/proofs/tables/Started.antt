-- What holds of a seat between steps is kept by the start of a call.
use Rattle.std.proofs.Common.{◌≡◌, ℕ, [], ◌∷◌, sym, refl, ap, ◌∙◌, subst, Option}
use Rattle.atomic_table.specs.Table.{Me}
use Rattle.lfm_protocol.specs.declared.answers.Call.{Call}
use Rattle.lfm_protocol.specs.declared.limits.Limits.{Limits}
use Rattle.lfm_protocol.specs.declared.seats.SeatState.{SeatState}
use Rattle.lfm_protocol.specs.Begin as Begin
use Rattle.lfm_laws.specs.table.Carried.{carries_value}
use Rattle.lfm_laws.specs.table.Ready.{IsReady}
use Rattle.lfm_laws.proofs.table.ReadyBegins.{settles_ready}
use Rattle.lfm_table.specs.declared.seat_view.View.{View}
use Rattle.lfm_table.specs.declared.rule.Moving.{Moving}
use Rattle.lfm_table.specs.Rule.{in_hand}
use Rattle.lfm_table.specs.Seats.{Seated, Rooted}
use Rattle.lfm_table.specs.Settled.{Became}
use Rattle.lfm_table.proofs.tables.SettledKept.{became_begin}
use Rattle.lfm_table.proofs.tables.StepFacts.{begin_keeps}

module _ {T : Type 0} (number words id : ℕ) (l : Limits) (p q : SeatState) (m : Me (Option (Moving T)) (View T)) (a : Option (Moving T)) (was : Seated number l p m a) (became_before : Became m.0.state l p) (ready_before : IsReady l.seats number p) (rooted : Rooted words id number l m.0) where
  pub record Begun : Type 0 where
    pub seated : Seated number l q m a
    pub became : Became m.0.state l q
    pub ready : IsReady l.seats number q

  pub begun : (call : Call) → q ≡ (Begin.begin p l call).seat → Begun
  begun call is =
      let kept = begin_keeps p l call in
      let carried : carries_value q ≡ carries_value p = ap carries_value is ∙ kept.0 in
      record {
        seated = record {
          user = was.user;
          named = was.named;
          limits_are = was.limits_are;
          hand = was.hand ∙ ap in_hand (sym carried);
          moved = was.moved ∙ sym carried;
          listed = was.listed;
          room = was.room;
          kept = λ flat. was.kept (kept.1 (ap (λ (x : SeatState). x.depth) (sym is) ∙ flat));
        };
        became = subst (λ (x : SeatState). Became m.0.state l x) (sym is) (became_begin m.0.state l p became_before call);
        ready = subst (λ (x : SeatState). IsReady l.seats number x) (sym is) (settles_ready l number p (Begin.begin p l call).seat rooted.low rooted.high ready_before (record { calls = call ∷ []; leads = refl }));
      }
