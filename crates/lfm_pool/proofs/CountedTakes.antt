-- How the counts of a seat over all mutexes of its pool follow what its calls do in one of them.
use Rattle.std.proofs.Common.{◌≡◌, ◌≢◌, ℕ, zero, suc, ◌+◌, ◌^◌, ◌<◌, ◌≤◌, List, [], ◌∷◌, length, refl, sym, ap, ◌∙◌, subst, inl, inr, arith, length-set, Option, Some, None}
use Rattle.std.specs.Prelude.{⊤, Ok, Err, slice_set, slice_index_or}
use Rattle.std.proofs.lemmas.Bool.{cases_eq}
use Rattle.std.proofs.lemmas.List.{get_or-set_other, get_or-set_same}
use Rattle.atomic_table.specs.Table.{Me}
use Rattle.lfm_model.specs.declared.answers.Asked.{Asked}
use Rattle.lfm_model.specs.declared.answers.How.{How}
use Rattle.lfm_model.specs.declared.answers.Locked.{Locked}
use Rattle.lfm_model.specs.declared.refusals.Refusal.{Refusal}
use Rattle.lfm_words.specs.declared.pop_lists.Record.{Record}
use Rattle.lfm_protocol.specs.declared.seats.SeatState.{SeatState}
use Rattle.lfm_table.specs.declared.seat_view.Seen.{Seen}
use Rattle.lfm_table.specs.declared.seat_view.View.{View}
use Rattle.lfm_table.specs.Rule.{no_view}
use Rattle.lfm_table.proofs.tables.StepFacts.{became_depth}
use Rattle.lfm_pool.specs.declared.pool.Pool.{Pool}
use Rattle.lfm_pool.specs.declared.pool.TableSeat.{TableSeat}
use Rattle.lfm_pool.specs.declared.unlock.Released.{Released}
use Rattle.lfm_pool.specs.declared.view.Admission.{Admission}
use Rattle.lfm_pool.specs.declared.view.Known.{Known}
use Rattle.lfm_pool.specs.declared.view.Note.{Note}
use Rattle.lfm_pool.specs.declared.view.PoolView.{PoolView}
use Rattle.lfm_pool.specs.Admissions.{after_load, most_posts}
use Rattle.lfm_pool.specs.AskAll.{AsksAllIn}
use Rattle.lfm_pool.specs.AnyDepth.{IsRefused}
use Rattle.lfm_pool.specs.Belongs.{IsMutex, OfPool}
use Rattle.lfm_pool.specs.Counts.{CountsTakes, held_mutexes, one_hold}
use Rattle.lfm_pool.specs.Depths.{DeepensBy, GivesUpIn, HasDepthIn}
use Rattle.lfm_pool.specs.Receive.{ReceivedIn}
use Rattle.lfm_pool.specs.Seats.{state_of}
use Rattle.lfm_pool.specs.Steps.{state_at}
use Rattle.lfm_pool.specs.Tables.{known, unnoted}
use Rattle.lfm_pool.specs.TryLock.{TriesIn}
use Rattle.lfm_pool.specs.Unlock.{PassesOnIn, ReleasesIn}
use Rattle.lfm_pool.proofs.Admitted.{loaded_posts, loaded_state}

-- Numbers

at_least : (a b c : ℕ) → a ≡ b → b ≤ c → a ≤ c
at_least a b c is less = omega (arith, is, less)

le_same : (a b : ℕ) → a ≡ b → a ≤ b
le_same a b is = omega (arith, is)

le_self : (a : ℕ) → a ≤ a
le_self a = omega arith

above_zero : 0 < 1
above_zero = omega arith

trans_le : (a b c : ℕ) → a ≤ b → b ≤ c → a ≤ c
trans_le a b c first second = omega (arith, first, second)

inside_parts : (m n k : ℕ) → n ≡ k → m < k → m < n
inside_parts m n k is less = omega (arith, is, less)

-- In a seat with posts ps, holds hs and waits ws, one hold os has become ow: it has the holds ht then, and no more than before.
sum_then : (ht hs ow os ps pt ws wt most : ℕ) → ht + os ≡ hs + ow → ps + hs + ws ≤ most → pt + ow + wt ≤ ps + os + ws → pt + ht + wt ≤ most
sum_then ht hs ow os ps pt ws wt most held own sum = omega (arith, held, own, sum)

-- a seat that has a number for a post left has one for each mutex, if it has made no post since
sum_new : (ps pt ht long mutexes waits : ℕ) → pt ≡ ps → ps < most_posts → ht ≤ long → long ≡ mutexes → waits ≤ 1 → pt + ht + waits ≤ most_posts + mutexes + 1
sum_new ps pt ht long mutexes waits posts left held sized few = omega (arith, posts, left, held, sized, few)

sum_still : (ps pt os ow waits : ℕ) → pt ≡ ps → ow ≤ os → pt + ow + waits ≤ ps + os + waits
sum_still ps pt os ow waits posts fewer = omega (arith, posts, fewer)

sum_posted : (ps pt os ow : ℕ) → pt ≡ ps + 1 → ow ≡ 0 → os ≡ 1 → pt + ow + 0 ≤ ps + os + 0
sum_posted ps pt os ow posts none one = omega (arith, posts, none, one)

sum_received : (ps pt os ow : ℕ) → pt ≡ ps → ow ≡ 1 → pt + ow + 0 ≤ ps + os + 1
sum_received ps pt os ow posts one = omega (arith, posts, one)

few_posts : (posts held one mutexes : ℕ) → one ≡ 1 → one ≤ held → posts + held + 0 ≤ most_posts + mutexes + 1 → mutexes < 2 ^ 32 → posts + 2 < 2 ^ 48
few_posts posts held one mutexes is some own few = omega (arith, is, some, own, few)

one_more : (a b takes : ℕ) → a ≡ b + 1 → b ≤ takes → a ≤ takes + 1
one_more a b takes is few = omega (arith, is, few)

after_left : (takes budget : ℕ) → takes < budget → takes + 1 ≤ budget
after_left takes budget left = omega (arith, left)

no_less : (takes : ℕ) → takes ≤ takes + 1
no_less takes = omega arith

waits_none : 0 ≤ 1
waits_none = omega arith

waits_one : 1 ≤ 1
waits_one = omega arith

-- Holds

one_if_held : (d : ℕ) → 0 < d → one_hold d ≡ 1
one_if_held zero some = absurd (omega (arith, some))
one_if_held (suc d) some = refl

at_most_one : (d : ℕ) → one_hold d ≤ 1
at_most_one zero = omega arith
at_most_one (suc d) = omega arith

same_holds : (a b : ℕ) → a ≡ 1 → b ≤ 1 → b ≤ a
same_holds a b one most = omega (arith, one, most)

no_holds : (a b : ℕ) → b ≡ 0 → b ≤ a
no_holds a b none = omega (arith, none)

held_cons : (a b c d e : ℕ) → b + c ≡ d + e → a + b + c ≡ a + d + e
held_cons a b c d e is = omega (arith, is)

first_cons : (a b c : ℕ) → c + a + b ≡ b + a + c
first_cons a b c = omega arith

first_at : (a b : ℕ) → a ≤ a + b
first_at a b = omega arith

later_at : (a b c : ℕ) → c ≤ b → c ≤ a + b
later_at a b c less = omega (arith, less)

below_suc : (m n : ℕ) → suc m < suc n → m < n
below_suc m n less = omega (arith, less)

-- what the seat knows of one mutex changes
held_set : (l : List Known) (m : ℕ) (x d : Known) → m < length l → held_mutexes (slice_set l m x) + one_hold (slice_index_or l m d).view.state.depth ≡ held_mutexes l + one_hold x.view.state.depth
held_set [] m x d less = absurd (omega (arith, less))
held_set (k ∷ rest) zero x d less = first_cons (held_mutexes rest) (one_hold k.view.state.depth) (one_hold x.view.state.depth)
held_set (k ∷ rest) (suc m) x d less =
    held_cons (one_hold k.view.state.depth) (held_mutexes (slice_set rest m x)) (one_hold (slice_index_or rest m d).view.state.depth) (held_mutexes rest) (one_hold x.view.state.depth)
    (held_set rest m x d (below_suc m (length rest) less))

one_and : (a b c : ℕ) → a ≤ 1 → b ≤ c → a + b ≤ suc c
one_and a b c one more = omega (arith, one, more)

-- a seat holds no more mutexes than there are
held_most : (l : List Known) → held_mutexes l ≤ length l
held_most [] = omega arith
held_most (k ∷ rest) = one_and (one_hold k.view.state.depth) (held_mutexes rest) (length rest) (at_most_one k.view.state.depth) (held_most rest)

-- a mutex that the seat holds is counted
held_at : (l : List Known) (m : ℕ) (d : Known) → m < length l → one_hold (slice_index_or l m d).view.state.depth ≤ held_mutexes l
held_at [] m d less = absurd (omega (arith, less))
held_at (k ∷ rest) zero d less = first_at (one_hold k.view.state.depth) (held_mutexes rest)
held_at (k ∷ rest) (suc m) d less = later_at (one_hold k.view.state.depth) (held_mutexes rest) (one_hold (slice_index_or rest m d).view.state.depth) (held_at rest m d (below_suc m (length rest) less))

-- a seat that is told that it holds a mutex knows so
above_none : (d n : ℕ) → 0 < d → d ≤ n → 0 < n
above_none d n some more = omega (arith, some, more)

pub held_now : (s : TableSeat) (p : Pool) (m depth : ℕ) → HasDepthIn s p m depth → 0 < depth → one_hold (state_of s m).depth ≡ 1
held_now s p m depth has some = one_if_held (state_of s m).depth (above_none depth (state_of s m).depth some has.now.became.deep)

differ : (n : ℕ) → n ≡ 1 → n ≡ 0 → ⊥
differ n one none = omega (arith, one, none)

-- a seat that holds a mutex is not told that it holds it not at all
pub not_flat : (s : TableSeat) (p : Pool) (m depth : ℕ) → HasDepthIn s p m depth → 0 < depth → HasDepthIn s p m 0 → ⊥
not_flat s p m depth has some none =
    differ (one_hold (state_of s m).depth) (held_now s p m depth has some) (ap one_hold (became_depth (state_of s m) p.limits (state_at s.place.me.0 m 0) none.now.became refl))

-- Posts

posts_same : (s t : TableSeat) → t.place.me.0.posts ≡ s.place.me.0.posts → t.posts ≡ s.posts
posts_same s t same = sym t.counted ∙ same ∙ s.counted

-- What a seat has counted that knows what it knew

pub counted_refused : (s t : TableSeat) (p : Pool) (takes waits : ℕ) → CountsTakes takes waits s p → IsRefused s t → CountsTakes takes waits t p
counted_refused s t p takes waits counts knows =
    let posts = posts_same s t (ap (λ (z : Me ℕ PoolView). z.0.posts) knows) in record {
      each = λ n inner. subst (λ (z : Me ℕ PoolView). (slice_index_or z.0.parts n (unnoted no_view)).view.state.takes ≤ takes) (sym knows) (counts.each n inner);
      own = subst (λ (z : ℕ × Me ℕ PoolView). z.0 + held_mutexes z.1.0.parts + waits ≤ most_posts + p.mutexes + 1) (λ i. (sym posts i, sym knows i)) counts.own;
      within = counts.within;
    }

-- What it has counted after it has loaded a push word

held_admitted : (l : List Known) (m : ℕ) (d : Known) (a : Admission) → held_mutexes (slice_set l m (record (slice_index_or l m d) { admission = a })) ≡ held_mutexes l
held_admitted [] m d a = refl
held_admitted (k ∷ rest) zero d a = refl
held_admitted (k ∷ rest) (suc m) d a = ap (λ (n : ℕ). one_hold k.view.state.depth + n) (held_admitted rest m d a)

pub counts_loaded : (s t : TableSeat) (m found : ℕ) → t.place.me ≡ (after_load s m found).place.me → (p : Pool) (takes waits : ℕ) → CountsTakes takes waits s p → CountsTakes takes waits t p
counts_loaded s t m found now p takes waits counts =
    let posts = posts_same s t (loaded_posts s t m found now) in
    let held = ap (λ (z : Me ℕ PoolView). held_mutexes z.0.parts) now ∙ held_admitted s.place.me.0.parts m (unnoted no_view) _ in record {
      each = λ n inner. subst (λ (x : SeatState). x.takes ≤ takes) (sym (loaded_state s t m found now n)) (counts.each n inner);
      own = subst (λ (z : ℕ × ℕ). z.0 + z.1 + waits ≤ most_posts + p.mutexes + 1) (λ i. (sym posts i, sym held i)) counts.own;
      within = counts.within;
    }

-- What a seat makes of its counts in one mutex

pub inside_of : (s : TableSeat) (p : Pool) (m : ℕ) → OfPool s p → IsMutex m p → m < length s.place.me.0.parts
inside_of s p m belongs less = inside_parts m (length s.place.me.0.parts) p.mutexes belongs.parts less

module _ (s t : TableSeat) (p : Pool) (m takes waits : ℕ) (belongs : OfPool s p) (less : IsMutex m p) (counts : CountsTakes takes waits s p) where
  abbrev inside : m < length s.place.me.0.parts
  inside = inside_of s p m belongs less

  -- the view w of mutex m is all that has changed, and the count of its posts
  module _ (w : View ⊤) (k : Note) (knows : t.place.me.0.parts ≡ slice_set s.place.me.0.parts m (record (known s.place.me.0 m) { view = w; note = k })) where
    here_now : state_of t m ≡ w.state
    here_now =
        ap (λ (l : List Known). (slice_index_or l m (unnoted no_view)).view.state) knows
        ∙ ap (λ (x : Known). x.view.state) (get_or-set_same s.place.me.0.parts m (record (known s.place.me.0 m) { view = w; note = k }) (unnoted no_view) inside)

    other_now : (n : ℕ) → n ≢ m → state_of t n ≡ state_of s n
    other_now n other =
        ap (λ (l : List Known). (slice_index_or l n (unnoted no_view)).view.state) knows
        ∙ ap (λ (x : Known). x.view.state) (get_or-set_other s.place.me.0.parts m n (record (known s.place.me.0 m) { view = w; note = k }) (unnoted no_view) other)

    held_then : held_mutexes t.place.me.0.parts + one_hold (state_of s m).depth ≡ held_mutexes s.place.me.0.parts + one_hold w.state.depth
    held_then =
        ap (λ (l : List Known). held_mutexes l + one_hold (state_of s m).depth) knows
        ∙ held_set s.place.me.0.parts m (record (known s.place.me.0 m) { view = w; note = k }) (unnoted no_view) inside

    -- it holds and waits for no more than before, beside its posts
    own_then : (waits' : ℕ) → t.posts + one_hold w.state.depth + waits' ≤ s.posts + one_hold (state_of s m).depth + waits → t.posts + held_mutexes t.place.me.0.parts + waits' ≤ most_posts + p.mutexes + 1
    own_then waits' sum =
        sum_then (held_mutexes t.place.me.0.parts) (held_mutexes s.place.me.0.parts) (one_hold w.state.depth) (one_hold (state_of s m).depth) s.posts t.posts waits waits' (most_posts + p.mutexes + 1) held_then counts.own sum

    -- it holds or waits for one mutex more
    own_new : (waits' : ℕ) → waits' ≤ 1 → s.posts < most_posts → t.posts ≡ s.posts → t.posts + held_mutexes t.place.me.0.parts + waits' ≤ most_posts + p.mutexes + 1
    own_new waits' few left posts =
        sum_new s.posts t.posts (held_mutexes t.place.me.0.parts) (length t.place.me.0.parts) p.mutexes waits' posts left (held_most t.place.me.0.parts)
        (ap (λ (l : List Known). length l) knows ∙ length-set s.place.me.0.parts m _ ∙ belongs.parts) few

    counted_then : (takes' waits' : ℕ) → takes ≤ takes' → takes' ≤ p.limits.budget → w.state.takes ≤ takes' → t.posts + held_mutexes t.place.me.0.parts + waits' ≤ most_posts + p.mutexes + 1 → CountsTakes takes' waits' t p
    counted_then takes' waits' more most few own = record {
      each = λ n inner. elim (cases_eq n m) [
        | inl is ↦ at_least (state_of t n).takes w.state.takes takes' (ap (λ (i : ℕ). (state_of t i).takes) is ∙ ap (λ (x : SeatState). x.takes) here_now) few
        | inr other ↦ at_least (state_of t n).takes (state_of s n).takes takes' (ap (λ (x : SeatState). x.takes) (other_now n other)) (trans_le (state_of s n).takes takes takes' (counts.each n inner) more)
      ];
      own = own;
      within = most;
    }

    -- it has acquired nothing, and has made no take
    pub counted_less : (waits' : ℕ) → w.state.takes ≡ (state_of s m).takes → t.posts + one_hold w.state.depth + waits' ≤ s.posts + one_hold (state_of s m).depth + waits → CountsTakes takes waits' t p
    counted_less waits' same sum =
        counted_then takes waits' (le_self takes) counts.within (at_least w.state.takes (state_of s m).takes takes same (counts.each m less)) (own_then waits' sum)

    -- it has made no post and no take, and does not hold more
    pub counted_still : w.state.takes ≡ (state_of s m).takes → one_hold w.state.depth ≤ one_hold (state_of s m).depth → t.posts ≡ s.posts → CountsTakes takes waits t p
    counted_still same fewer posts = counted_less waits same (sum_still s.posts t.posts (one_hold (state_of s m).depth) (one_hold w.state.depth) waits posts fewer)

    -- it has made a take, and has acquired a mutex or waits for one
    pub counted_more : (waits' : ℕ) → waits' ≤ 1 → takes < p.limits.budget → s.posts < most_posts → w.state.takes ≡ (state_of s m).takes + 1 → t.posts ≡ s.posts → CountsTakes (takes + 1) waits' t p
    counted_more waits' few left number more posts =
        counted_then (takes + 1) waits' (no_less takes) (after_left takes p.limits.budget left) (one_more w.state.takes (state_of s m).takes takes more (counts.each m less)) (own_new waits' few number posts)

-- The calls

below_left : (a takes budget : ℕ) → a ≤ takes → takes < budget → a < budget
below_left a takes budget few left = omega (arith, few, left)

module _ (s t : TableSeat) (p : Pool) (m takes : ℕ) (belongs : OfPool s p) (less : IsMutex m p) (counts : CountsTakes takes 0 s p) where
  -- it has a take left in each mutex, if it has one left over all of them
  pub charged_there : takes < p.limits.budget → (state_of s m).takes < p.limits.budget
  charged_there left = below_left (state_of s m).takes takes p.limits.budget (counts.each m less) left

  -- a seat that holds a mutex has a number for a post left
  pub post_left : HasDepthIn s p m 1 → s.posts + 2 < 2 ^ 48
  post_left has =
      few_posts s.posts (held_mutexes s.place.me.0.parts) (one_hold (state_of s m).depth) p.mutexes (held_now s p m 1 has above_zero) (held_at s.place.me.0.parts m (unnoted no_view) (inside_of s p m belongs less)) counts.own p.few.1

  -- an acquisition, of a seat that has a take and a number for a post left
  module _ (left : takes < p.limits.budget) (number : s.posts < most_posts) where
    taken : (w : View ⊤) (k : Note) → t.place.me.0.parts ≡ slice_set s.place.me.0.parts m (record (known s.place.me.0 m) { view = w; note = k }) → t.place.me.0.posts ≡ s.place.me.0.posts → w.state.takes ≡ (state_of s m).takes + 1 → CountsTakes (takes + 1) 0 t p
    taken w k parts posts more = counted_more s t p m takes 0 belongs less counts w k parts 0 waits_none left number more (posts_same s t posts)

    -- one that the seat waits for
    waited : (w : View ⊤) (k : Note) → t.place.me.0.parts ≡ slice_set s.place.me.0.parts m (record (known s.place.me.0 m) { view = w; note = k }) → t.place.me.0.posts ≡ s.place.me.0.posts → w.state.takes ≡ (state_of s m).takes + 1 → CountsTakes (takes + 1) 1 t p
    waited w k parts posts more = counted_more s t p m takes 0 belongs less counts w k parts 1 waits_one left number more (posts_same s t posts)

    pub counts_tried : (locked : Locked) → TriesIn s t m (Ok locked) → CountsTakes (takes + 1) 0 t p
    counts_tried locked did =
        let more = did.2 in
        taken more.0 more.1 (ap (λ (z : Me ℕ PoolView). z.0.parts) more.2) (ap (λ (z : Me ℕ PoolView). z.0.posts) more.2) (ap (λ (x : SeatState). x.takes) more.3.0.state)

    pub counts_asked : (how : How) (granted : Option Record) → AsksAllIn (Asked.Held how) granted s t p m → CountsTakes (takes + 1) 0 t p
    counts_asked How.Free None did =
        let more = did.2 in
        taken more.0 more.1 (ap (λ (z : Me ℕ PoolView). z.0.parts) more.2) (ap (λ (z : Me ℕ PoolView). z.0.posts) more.2) (ap (λ (x : SeatState). x.takes) more.3.0.state)
    counts_asked (How.Queued stamp) None did =
        taken did.0 did.1 (ap (λ (z : Me ℕ PoolView). z.0.parts) did.2) (ap (λ (z : Me ℕ PoolView). z.0.posts) did.2) (ap (λ (x : SeatState). x.takes) did.3.0.5.state)
    counts_asked How.Free (Some r) did = absurd did
    counts_asked (How.Queued stamp) (Some r) did = absurd did

    pub counts_waiting : (granted : Option Record) → AsksAllIn Asked.Asleep granted s t p m → CountsTakes (takes + 1) 1 t p
    counts_waiting None did =
        let more = did.2 in
        waited more.0 more.1 (ap (λ (z : Me ℕ PoolView). z.0.parts) more.2) (ap (λ (z : Me ℕ PoolView). z.0.posts) more.2) (ap (λ (x : SeatState). x.takes) more.3.0.state)
    counts_waiting (Some r) did =
        waited did.0 did.1 (ap (λ (z : Me ℕ PoolView). z.0.parts) did.2) (ap (λ (z : Me ℕ PoolView). z.0.posts) did.2) (ap (λ (x : SeatState). x.takes) did.3.0.5.state)

  -- a call that takes nothing
  still : (w : View ⊤) (k : Note) → t.place.me.0.parts ≡ slice_set s.place.me.0.parts m (record (known s.place.me.0 m) { view = w; note = k }) → t.place.me.0.posts ≡ s.place.me.0.posts → w.state.takes ≡ (state_of s m).takes → one_hold w.state.depth ≤ one_hold (state_of s m).depth → CountsTakes takes 0 t p
  still w k parts posts same fewer = counted_still s t p m takes 0 belongs less counts w k parts same fewer (posts_same s t posts)

  pub counts_busy : (refusal : Refusal) → TriesIn s t m (Err refusal) → CountsTakes takes 0 t p
  counts_busy refusal did =
      let more = did.2 in
      still more.0 more.1 (ap (λ (z : Me ℕ PoolView). z.0.parts) more.2) (ap (λ (z : Me ℕ PoolView). z.0.posts) more.2)
      (ap (λ (x : SeatState). x.takes) more.3.0.state) (le_same (one_hold more.0.state.depth) (one_hold (state_of s m).depth) (ap (λ (x : SeatState). one_hold x.depth) more.3.0.state))

  pub counts_deeper : (steps : ℕ → List Seen → Type 0) (before depth : ℕ) → 0 < before → HasDepthIn s p m before → DeepensBy steps s t p m depth → CountsTakes takes 0 t p
  counts_deeper steps before depth some has did =
      still did.0 did.1 (ap (λ (z : Me ℕ PoolView). z.0.parts) did.2) (ap (λ (z : Me ℕ PoolView). z.0.posts) did.2)
      (ap (λ (x : SeatState). x.takes) did.3.0.2.state) (same_holds (one_hold (state_of s m).depth) (one_hold did.0.state.depth) (held_now s p m before has some) (at_most_one did.0.state.depth))

  pub counts_fewer : (depth : ℕ) → GivesUpIn s t p m depth → CountsTakes takes 0 t p
  counts_fewer depth did =
      still did.0 did.1 (ap (λ (z : Me ℕ PoolView). z.0.parts) did.2) (ap (λ (z : Me ℕ PoolView). z.0.posts) did.2)
      (ap (λ (v : View ⊤). v.state.takes) did.3.0) (le_same (one_hold did.0.state.depth) (one_hold (state_of s m).depth) (ap (λ (v : View ⊤). one_hold v.state.depth) did.3.0))

  passed : HasDepthIn s p m 1 → (result : Released) → PassesOnIn result s t p m → CountsTakes takes 0 t p
  passed has result did =
      counted_less s t p m takes 0 belongs less counts did.0 did.1 (ap (λ (z : Me ℕ PoolView). z.0.parts) did.2) 0 (ap (λ (x : SeatState). x.takes) did.3.0.state)
      (sum_posted s.posts t.posts (one_hold (state_of s m).depth) (one_hold did.0.state.depth) (sym t.counted ∙ ap (λ (z : Me ℕ PoolView). z.0.posts) did.2) (ap (λ (x : SeatState). one_hold x.depth) did.3.0.state) (held_now s p m 1 has above_zero))

  pub counts_released : HasDepthIn s p m 1 → (released : Released) → ReleasesIn released s t p m → CountsTakes takes 0 t p
  counts_released has Released.Free did =
      still did.0 did.1 (ap (λ (z : Me ℕ PoolView). z.0.parts) did.2) (ap (λ (z : Me ℕ PoolView). z.0.posts) did.2)
      did.3.0.takes (no_holds (one_hold (state_of s m).depth) (one_hold did.0.state.depth) (ap one_hold did.3.0.flat))
  counts_released has (Released.Granted r) did = elim did [
    | inl h ↦ still h.0 h.1 (ap (λ (z : Me ℕ PoolView). z.0.parts) h.2) (ap (λ (z : Me ℕ PoolView). z.0.posts) h.2) (ap (λ (x : SeatState). x.takes) h.3.0.state) (no_holds (one_hold (state_of s m).depth) (one_hold h.0.state.depth) (ap (λ (x : SeatState). one_hold x.depth) h.3.0.state))
    | inr h ↦ passed has (Released.Granted r) h
  ]
  counts_released has Released.Posted did = passed has Released.Posted did
  counts_released has Released.TakenOver did = passed has Released.TakenOver did

-- a receive
module _ (s t : TableSeat) (p : Pool) (m takes : ℕ) (belongs : OfPool s p) (less : IsMutex m p) (counts : CountsTakes takes 1 s p) where
  pub counts_asleep : ReceivedIn s t m None → CountsTakes takes 1 t p
  counts_asleep did =
      let more = did.4 in
      counted_still s t p m takes 1 belongs less counts more.0 more.1 (ap (λ (z : Me ℕ PoolView). z.0.parts) more.2)
      (ap (λ (x : SeatState). x.takes) more.3.0.state) (le_same (one_hold more.0.state.depth) (one_hold (state_of s m).depth) (ap (λ (x : SeatState). one_hold x.depth) more.3.0.state))
      (posts_same s t (ap (λ (z : Me ℕ PoolView). z.0.posts) more.2))

  pub counts_received : (how : How) → ReceivedIn s t m (Some how) → CountsTakes takes 0 t p
  counts_received how did =
      let more = did.4 in
      counted_less s t p m takes 1 belongs less counts more.0 more.1 (ap (λ (z : Me ℕ PoolView). z.0.parts) more.2) 0 (ap (λ (x : SeatState). x.takes) more.3.0.state)
      (sum_received s.posts t.posts (one_hold (state_of s m).depth) (one_hold more.0.state.depth) (posts_same s t (ap (λ (z : Me ℕ PoolView). z.0.posts) more.2)) (ap (λ (x : SeatState). one_hold x.depth) more.3.0.state))
