-- How cond seats change the list: by nothing, by one change after another, by a waiter that is appended, and by waiters that are
-- taken off. A cond seat's own last list and the list that it finds are related by such changes of other cond seats.
use Rattle.std.proofs.Common.{ℕ, List, [], ◌∷◌, ◌++◌, refl, sym, ◌∙◌, ap, subst, arith, append_assoc, append-nil, length-append, get_or, get_or-set_other}
use Rattle.lfm_mutex.specs.Reach.{Leads, Reached}
use Rattle.lfm_condvar.specs.declared.waiters.Waiter.{Waiter}
use Rattle.lfm_condvar.specs.declared.waiters.Waiters.{Waiters}
use Rattle.lfm_condvar.specs.Keeping.{Appended, GoesOnInOrder, Since, Taken, WaitersFollow}
use Rattle.lfm_condvar.specs.Lists.{waiter}
use Rattle.lfm_condvar.proofs.ListFacts.{go_on_join}

-- The order of the list

pub goes_on_none : (v : Waiters) → GoesOnInOrder v v
goes_on_none v = record { new = []; gone = []; list = append-nil v.list.items; tickets = tt; added = omega arith; sent = omega arith }

pub goes_on_more : (u v w : Waiters) → GoesOnInOrder u v → GoesOnInOrder v w → GoesOnInOrder u w
goes_on_more u v w a b = record {
  new = a.new ++ b.new;
  gone = a.gone ++ b.gone;
  list = sym (append_assoc u.list.items a.new b.new) ∙ (ap (λ (l : List Waiter). l ++ b.new) a.list ∙ (append_assoc a.gone v.list.items b.new ∙ (ap (λ (l : List Waiter). a.gone ++ l) b.list ∙ sym (append_assoc a.gone b.gone w.list.items))));
  tickets = go_on_join u.added v.added a.new b.new a.tickets a.added b.tickets;
  added = (let p = a.added in let q = b.added in let l = length-append a.new b.new in omega arith);
  sent = (let p = a.sent in let q = b.sent in let l = length-append a.gone b.gone in omega arith);
}

goes_on_appended : (by user : ℕ) (v w : Waiters) → Appended by user v w → GoesOnInOrder v w
goes_on_appended by user v w a = record { new = waiter user w.added ∷ []; gone = []; list = sym a.list; tickets = (a.added, tt); added = (let p = a.added in omega arith); sent = (let p = a.sent in omega arith) }

goes_on_taken : (gone : List Waiter) (v w : Waiters) → Taken gone v w → GoesOnInOrder v w
goes_on_taken gone v w a = record { new = []; gone = gone; list = append-nil v.list.items ∙ a.list; tickets = tt; added = (let p = a.added in omega arith); sent = a.sent }

-- Changes by a cond seat

pub follows_none : (s : ℕ) (v : Waiters) → WaitersFollow s v v
follows_none s v = record { seats = refl; budget = refl; order = goes_on_none v; others = λ k ne. refl }

pub follows_more : (s : ℕ) (u v w : Waiters) → WaitersFollow s u v → WaitersFollow s v w → WaitersFollow s u w
follows_more s u v w a b = record { seats = b.seats ∙ a.seats; budget = b.budget ∙ a.budget; order = goes_on_more u v w a.order b.order; others = λ k ne. b.others k ne ∙ a.others k ne }

pub follows_appended : (by user : ℕ) (v w : Waiters) → Appended by user v w → WaitersFollow by v w
follows_appended by user v w a = record { seats = a.seats; budget = a.budget; order = goes_on_appended by user v w a; others = λ k ne. ap (λ (l : List ℕ). get_or l k 0) a.counts ∙ (rw get_or-set_other refl) }

pub follows_taken : (gone : List Waiter) (s : ℕ) (v w : Waiters) → Taken gone v w → WaitersFollow s v w
follows_taken gone s v w a = record { seats = a.seats; budget = a.budget; order = goes_on_taken gone v w a; others = λ k ne. ap (λ c. get_or c.items k 0) a.counts }

-- Changes by other cond seats

stays : (s : ℕ) (v : Waiters) → Since s v v
stays s v = record { seats = refl; budget = refl; order = goes_on_none v; own = refl }

led : (n s : ℕ) (path : List (ℕ × Waiters)) (v w : Waiters) → Leads WaitersFollow n s path v w → Since s v w
led n s [] v w e = subst (Since s v) e (stays s v)
led n s (p ∷ ps) v w h = let r = led n s ps p.1 w h.2 in let f = h.1 in record {
  seats = r.seats ∙ f.seats;
  budget = r.budget ∙ f.budget;
  order = goes_on_more v p.1 w f.order r.order;
  own = r.own ∙ f.others s (λ e. h.0.0 (sym e));
}

pub since_reached : (n s : ℕ) (v w : Waiters) → Reached WaitersFollow n s v w → Since s v w
since_reached n s v w r = led n s r.0 v w r.1
