-- The points of a push: the seat's own methods there, as equations, and the course of its steps.
use Rattle.std.proofs.Common.{◌≡◌, ◌≢◌, ℕ, ◌<◌, ◌%◌, if◌then◌else◌, nat_eq, ap, sym, subst, refl, ◌∙◌, arith, Option}
use Rattle.std.specs.Prelude.{Bool, true, false}
use Rattle.std.proofs.lemmas.Bool.{ne_eqb, eq-eqb, not-true, not-false}
use Rattle.std.proofs.lemmas.Nat.{div-add-mod'}
use Rattle.lfm_words.specs.Words.{link_word, is_posted_word}
use Rattle.lfm_words.specs.declared.links.Link.{Link}
use Rattle.lfm_words.specs.declared.pop_lists.Record.{Record}
use Rattle.lfm_protocol.specs.declared.limits.Limits.{Limits}
use Rattle.lfm_protocol.specs.declared.points.Point.TheVariants.{LinkStore, PushExchange, PushLoad, PushedHandoffLoad}
use Rattle.lfm_protocol.specs.declared.points.Pusher.{Pusher}
use Rattle.lfm_protocol.specs.declared.seats.SeatState.{SeatState}
use Rattle.lfm_protocol.specs.After.{same_link, found_posted, pushed}
use Rattle.lfm_protocol.specs.Begin.{Stepped}
use Rattle.lfm_laws.specs.table.Carried.{carries_value}
use Rattle.lfm_laws.specs.table.Words.{stepped_by, handoff_of, link_of}
use Rattle.lfm_laws.proofs.table.Packing.{same_link_word}
use Rattle.lfm_table.specs.Table.{Me}
use Rattle.lfm_table.specs.declared.rule.Moving.{Moving}
use Rattle.lfm_table.specs.declared.seat_view.View.{View}
use Rattle.lfm_table.specs.Steps.{oldest_in}
use Rattle.lfm_table.specs.FastPath.{Fit, MadeStep}
use Rattle.lfm_mutex.specs.calls.Runs.{opens}
use Rattle.lfm_mutex.proofs.runs.PlainCourses.{PlainSteps, plain_none, plain_next}
use Rattle.lfm_table.proofs.tables.StepFacts.{made_of}

-- The exchange

-- the push word has not changed since it was loaded
pub exchanged : (u : Pusher) (d t ps s w n : ℕ) (o : Option Record) → n ≡ w → stepped_by (made_of d t ps (PushExchange u (link_of w))) s n o ≡ opens (made_of d t ps (PushedHandoffLoad u))
exchanged u d t ps s w n o same =
    let stamp = eq-eqb (link_of n).stamp (link_of w).stamp (ap (λ (m : ℕ). (link_of m).stamp) same) in
    let next = eq-eqb (link_of n).next (link_of w).next (ap (λ (m : ℕ). (link_of m).next) same) in
    rw (stamp, next) refl

packs : (n : ℕ) → link_word (link_of n) ≡ n
packs n = div-add-mod' n 65536

next_fits : (n : ℕ) → n % 65536 < 65536
next_fits n = omega arith

-- different words hold different links
differ : (w n : ℕ) → n ≢ w → same_link (link_of n) (link_of w) ≡ false
differ w n other = same_link_word (link_of n) (link_of w) (next_fits n) (next_fits w) ∙ ne_eqb (link_word (link_of n)) (link_word (link_of w)) (λ e. other (sym (packs n) ∙ (e ∙ packs w)))

-- another seat has changed the push word
pub exchanged_not : (u : Pusher) (d t ps s w n : ℕ) (o : Option Record) → n ≢ w → stepped_by (made_of d t ps (PushExchange u (link_of w))) s n o ≡ opens (made_of d t ps (LinkStore u (link_of n)))
exchanged_not u d t ps s w n o other = let h = differ w n other in rw h refl

-- The load of the handoff word

-- no handoff is posted
pub found_none : (u : Pusher) (d t ps s n : ℕ) (o : Option Record) → is_posted_word n ≡ false → stepped_by (made_of d t ps (PushedHandoffLoad u)) s n o ≡ pushed (made_of d t ps (PushedHandoffLoad u)) u
found_none u d t ps s n o none = let h = not-false (nat_eq (n % 65536) 0) none in rw h refl

pub found_one : (u : Pusher) (d t ps s n : ℕ) (o : Option Record) → is_posted_word n ≡ true → stepped_by (made_of d t ps (PushedHandoffLoad u)) s n o ≡ opens (made_of d t ps (found_posted u (handoff_of n)))
found_one u d t ps s n o some = let h = not-true (nat_eq (n % 65536) 0) some in rw h refl

-- the end of a push that has queued its record doesn't depend on the seat's point
pub queued_end : (x : SeatState) (u : Pusher) → pushed (made_of x.depth x.takes x.posts (PushedHandoffLoad u)) u ≡ pushed x u
queued_end x Pusher.Locker = refl
queued_end x (Pusher.Sender t) = refl

-- A push moves no value

either_stays : (b : Bool) (x y : Stepped) (c : Bool) → carries_value x.seat ≡ c → carries_value y.seat ≡ c → carries_value (if b then x else y).seat ≡ c
either_stays true x y c first second = first
either_stays false x y c first second = second

pub handoff_stays : (u : Pusher) (d t ps s n : ℕ) (o : Option Record) → carries_value (stepped_by (made_of d t ps (PushedHandoffLoad u)) s n o).seat ≡ carries_value (made_of d t ps (PushedHandoffLoad u))
handoff_stays Pusher.Locker d t ps s n o = either_stays (nat_eq (n % 65536) 0) _ _ _ refl refl
handoff_stays (Pusher.Sender u) d t ps s n o = either_stays (nat_eq (n % 65536) 0) _ _ _ refl refl

-- The course

-- a load of the push word, a store of the link, and an exchange of the push word
pub pushes_by : {T : Type 0} {follows : ℕ → T → T → Type 0} {suits : T → ℕ → Type 0} {s w0 i0 w1 i1 w2 i2 w3 i3 w k n : ℕ} {l : Limits} {a0 a1 a2 a3 : Option (Moving T)} {m0 m1 m2 m3 : Me (Option (Moving T)) (View T)} (x : SeatState) (u : Pusher) (old : Link) (st : Stepped)
    → x.point ≡ PushLoad u → Fit s w0 i0 l x m0 a0
    → MadeStep follows suits s w1 i1 l (made_of x.depth x.takes x.posts (PushLoad u)) w m0 a0 m1 a1 → old ≡ link_of w
    → MadeStep follows suits s w2 i2 l (made_of x.depth x.takes x.posts (LinkStore u old)) k m1 a1 m2 a2
    → MadeStep follows suits s w3 i3 l (made_of x.depth x.takes x.posts (PushExchange u old)) n m2 a2 m3 a3 → stepped_by (made_of x.depth x.takes x.posts (PushExchange u old)) s n (oldest_in a3) ≡ st
    → PlainSteps follows suits s l x a0 m0.0 st.turn st.seat a3 m3
pushes_by {T} {follows} {suits} {s} {w0} {i0} {w1} {i1} {w2} {i2} {w3} {i3} {w} {k} {n} {l} {a0} {a1} {a2} {a3} {m0} {m1} {m2} {m3} x u old st at fit loaded link stored exchanges is =
    let here : x ≡ made_of x.depth x.takes x.posts (PushLoad u) = (λ i. record { depth = x.depth; takes = x.takes; posts = x.posts; point = at i }) in
    let so0 = plain_none follows suits (subst (λ (z : SeatState). Fit s w0 i0 l z m0 a0) here fit) in
    let so1 = plain_next (opens (made_of x.depth x.takes x.posts (LinkStore u old))) so0 loaded (ap (λ (z : Link). opens (made_of x.depth x.takes x.posts (LinkStore u z))) (sym link)) (λ e. cc) refl refl in
    let so2 = plain_next (opens (made_of x.depth x.takes x.posts (PushExchange u old))) so1 stored refl (λ e. cc) refl refl in
    let so3 = plain_next st so2 exchanges is (λ e. cc) refl refl in
    subst (λ (z : SeatState). PlainSteps follows suits s l z a0 m0.0 st.turn st.seat a3 m3) (sym here) so3
