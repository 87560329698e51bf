-- The wake-up that is held back while waiters are sent one after another.
use Rattle.std.proofs.Common.{◌≡◌, ℕ, Option, Some, None, List, [], ◌∷◌, ◌++◌, refl, sym, ap, subst, ◌∙◌, append_assoc, append-nil}
use Rattle.lfm_mutex.specs.declared.seat.Seat.{Seat}
use Rattle.lfm_mutex.specs.calls.Sight.{Sight, sight}
use Rattle.lfm_mutex.specs.calls.WakeUps.{Wakes, as_list, grants_of}
use Rattle.lfm_mutex.specs.calls.Woken.{WakesNobody, WakesThese, WokenAsGranted}
use Rattle.lfm_mutex.proofs.runs.Woken.{these_join, these_none}
use Rattle.lfm_condvar.specs.HeldBack.{HoldsLastBack, earlier_of, later_of}

none_some : (t : ℕ) → ◌≡◌ {A = Option ℕ} None (Some t) → ⊥
none_some t e = cc

module _ {T : Type 0} (seats : ℕ) where
  abbrev GrantsOf : Seat T → List ℕ
  GrantsOf s = grants_of (sight s).trail

  held_later : (held next : Option ℕ) (s m o b : Seat T) → HoldsLastBack seats held s m → WakesNobody m o → Wakes seats next (sight m).trail (sight o).trail → WakesThese (as_list (earlier_of held next)) o b → sight b ≡ sight o
      → HoldsLastBack seats (later_of held next) s b
  held_later held None s m o b h nobody k woke same = record {
    woken = h.woken;
    told = these_none o b woke ∙ (nobody ∙ h.told);
    granted = ap (λ (z : Sight T). grants_of z.trail) same ∙ (k.granted ∙ (append-nil (GrantsOf m) ∙ h.granted));
    last = h.last;
    inside = h.inside;
  }
  held_later held (Some n) s m o b h nobody k woke same = record {
    woken = h.woken ++ as_list held;
    told = these_join s o b h.woken (as_list held) (nobody ∙ h.told) woke;
    granted = ap (λ (z : Sight T). grants_of z.trail) same ∙ (k.granted ∙ (ap (λ (l : List ℕ). l ++ n ∷ []) h.granted ∙ append_assoc (GrantsOf s) (h.woken ++ as_list held) (n ∷ [])));
    last = λ e. absurd (none_some n (sym e));
    inside = k.inside;
  }

  -- before the first send
  pub held_none : (s : Seat T) → HoldsLastBack seats None s s
  held_none s = record { woken = []; told = simp append-nil; granted = sym (append-nil (GrantsOf s)); last = λ _. refl; inside = λ t e. absurd (none_some t e) }

  -- one more send was made; if it left a wake-up, the one that was held back before it was made
  pub held_more : (held next now : Option ℕ) (s m o b : Seat T) → now ≡ later_of held next → HoldsLastBack seats held s m → WakesNobody m o → Wakes seats next (sight m).trail (sight o).trail → WakesThese (as_list (earlier_of held next)) o b
      → sight b ≡ sight o → HoldsLastBack seats now s b
  held_more held next now s m o b is h nobody k woke same = subst (λ (w : Option ℕ). HoldsLastBack seats w s b) (sym is) (held_later held next s m o b h nobody k woke same)

  -- the last wake-up is made too
  pub held_woken : (last : Option ℕ) (s o w : Seat T) → HoldsLastBack seats last s o → WakesThese (as_list last) o w → sight w ≡ sight o → WokenAsGranted s w
  held_woken last s o w h woke same = (h.woken ++ as_list last, these_join s o w h.woken (as_list last) h.told woke, ap (λ (z : Sight T). grants_of z.trail) same ∙ h.granted)
