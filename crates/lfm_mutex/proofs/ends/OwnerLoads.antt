-- A load of the owner word for `owner`: the rule still holds after it, and it tells the caller whether it holds.
use Rattle.std.proofs.Common.{◌≡◌, ◌≢◌, ℕ, ◌+◌, ◌<◌, List, [], ◌∷◌, ◌++◌, get_or, set, sym, refl, ap, ◌∙◌, subst, ⊎_elim, arith, Option}
use Rattle.std.proofs.lemmas.Bool.{cases_eq}
use mathlib.Core.Option.{some}
use lib.ListN.{get_elem?}
use lib.Seq.{set-get_or}
use Rattle.lfm_table.specs.Table.{State, Me, keeps, Allows, stepped}
use Rattle.lfm_protocol.specs.declared.limits.Limits.{Limits}
use Rattle.lfm_protocol.specs.declared.points.Point.TheVariants.{TryOwnerLoad}
use Rattle.lfm_protocol.specs.declared.seats.SeatState.{SeatState}
use Rattle.lfm_protocol.specs.Core.{limits}
use Rattle.lfm_protocol.specs.Seats.{seat, IsSeat}
use Rattle.lfm_laws.proofs.lawful.runs.LimitsKept.{limits_stay}
use Rattle.lfm_table.specs.declared.seat_view.Action.TheVariants.{LoadsOwner}
use Rattle.lfm_table.specs.declared.seat_view.Role.TheVariants.{User}
use Rattle.lfm_table.specs.declared.seat_view.View.{View}
use Rattle.lfm_table.specs.declared.rule.Moving.{Moving}
use Rattle.lfm_table.specs.Actions.{HasRun, RunGoesOnBy, events_of, if_own, part_of}
use Rattle.lfm_table.specs.Rule.{Sits, Held, SameRoot, ReadsOwner, seen}
use Rattle.lfm_table.specs.Settled.{Became}
use Rattle.lfm_table.proofs.tables.CoreFacts.{owner_told}
use Rattle.lfm_table.proofs.tables.Actions.{goes_on_by, load_by, load_last, owner_load_part, run_goes_on}
use Rattle.lfm_table.proofs.tables.StepFacts.{became_depth}
use Rattle.lfm_table.proofs.tables.RuleKept.{root_on, others_on, length_at}
use Rattle.lfm_table.proofs.tables.OneView.{parts, quiet}

module _ {T : Type 0} (follows : ℕ → T → T → Type 0) (suits : T → ℕ → Type 0) where
  module _ (id : ℕ) (me : Me (Option (Moving T)) (View T)) (user : me.0.role ≡ User) (s : State (Option (Moving T)) (View T)) (h : Held follows suits s) (at : get_elem? s.views id ≡ some me.0) where
    abbrev Found : ℕ
    Found = get_or s.words 1 0

    abbrev Seen : View T
    Seen = record me.0 { trail = me.0.trail ++ seen TryOwnerLoad Found ∷ []; actions = h.actions ++ LoadsOwner (id + 1) ∷ [] }

    sits_here : Sits h.core id me.0
    sits_here = h.each id me.0 at

    load_part : (t : ℕ) → part_of h.core t (LoadsOwner (id + 1) ∷ []) ≡ if_own (id + 1) t (seen TryOwnerLoad Found)
    load_part t = owner_load_part h.core (id + 1) t ∙ ap (λ (m : ℕ). if_own (id + 1) t (seen TryOwnerLoad m)) (sym (ap (λ (ws : List ℕ). get_or ws 1 0) h.words_are))

    loaded : HasRun h.opened (h.actions ++ LoadsOwner (id + 1) ∷ []) h.core (set s.views id Seen)
    loaded = run_goes_on h.opened h.actions h.core s.views h.run (LoadsOwner (id + 1) ∷ []) h.core id me.0 Seen (seen TryOwnerLoad Found) at refl refl load_part (load_by (id + 1)) (load_last (id + 1) (id + 1) refl) refl sits_here.state

    loaded_by : RunGoesOnBy (LoadsOwner (id + 1) ∷ []) me.0 Seen
    loaded_by =
        let opened : h.opened ≡ me.0.limits = sym (limits_stay h.opened (events_of h.actions)) ∙ (ap limits (sym h.run.here) ∙ sym sits_here.limits_are) in
        goes_on_by h.opened h.actions h.core s.views h.run (LoadsOwner (id + 1) ∷ []) h.core id me.0 Seen (seen TryOwnerLoad Found) at refl refl load_part (load_by (id + 1)) (load_last (id + 1) (id + 1) refl) refl sits_here.state sits_here.number opened

    -- the rule still holds, and the run is extended by this load
    pub owner_keeps : (after : Held follows suits (stepped s 1 Found id me.1 Seen keeps)) × (after.opened ≡ h.opened) × (after.actions ≡ h.actions ++ LoadsOwner (id + 1) ∷ [])
    owner_keeps =
        let q = quiet follows suits h.core h.ghost_state h.holds_ended s.homes s.views (parts follows suits s h) id me.0 Seen at refl refl refl refl refl refl refl refl refl refl refl in
        let same : SameRoot me.0 Seen = record { number = refl; limits_are = refl; opening = refl; made = refl; joined_are = refl } in
        subst (λ (ws : List ℕ). (after : Held follows suits record { words = ws; homes = s.homes; views = set s.views id Seen }) × (after.opened ≡ h.opened) × (after.actions ≡ h.actions ++ LoadsOwner (id + 1) ∷ [])) (sym (set-get_or s.words 1 0)) (
          record {
            core = h.core;
            ghost_state = h.ghost_state;
            holds_ended = h.holds_ended;
            fits = h.fits;
            narrow = h.narrow;
            words_are = h.words_are;
            deep = h.deep;
            few = q.few;
            each = q.each;
            later = q.later;
            home = q.home;
            outside = q.outside;
            numbered = q.numbered;
            root = root_on follows suits s h id me.0 at user Seen refl same;
            others = others_on follows suits s h id me.0 at user Seen refl same;
            opened = h.opened;
            actions = h.actions ++ LoadsOwner (id + 1) ∷ [];
            run = loaded;
          },
          refl,
          refl,
        )

    -- what the load shows the caller
    pub owner_tells : ReadsOwner me Found (Seen, me.1)
    owner_tells =
        let sits = h.each id me.0 at in
        let l = length_at s.views id me.0 at in let few = h.few in
        let is : IsSeat h.core.seats me.0.number = record { above = omega (arith, sits.number); within = omega (arith, sits.number, few, l) } in
        let told = owner_told h.core h.ghost_state me.0.number is h.fits in
        let found : Found ≡ h.core.owner = ap (λ (ws : List ℕ). get_or ws 1 0) h.words_are in
        let stands : seat h.core.seats me.0.number ≡ me.0.state = ap (λ m. seat h.core.seats m) sits.number ∙ sits.state in (
          refl,
          omega (arith, sits.number),
          (λ e. subst (λ (x : SeatState). 0 < x.depth) stands (told.0 (sym found ∙ e))),
          (λ d. found ∙ told.1 (subst (λ (x : SeatState). 0 < x.depth) (sym stands) d)),
          subst (λ (t : ℕ). RunGoesOnBy (LoadsOwner t ∷ []) me.0 Seen) (sym sits.number) loaded_by,
        )

  pub reads_owner : (slots id : ℕ) (me : Me (Option (Moving T)) (View T)) → me.0.role ≡ User → Allows (Held follows suits) slots id me 1 (λ n. n) (ReadsOwner me)
  reads_owner slots id me user s h sized at small = (Seen id me user s h at, keeps, tt, (owner_keeps id me user s h at).0, owner_tells id me user s h at)

-- a seat holds exactly if its view does
pub depth_seen : (x : SeatState) (l : Limits) (p : SeatState) → Became x l p → (0 < p.depth → 0 < x.depth) × (0 < x.depth → 0 < p.depth)
depth_seen x l p b = (
  (λ d. let h = b.deep in omega (arith, h, d)),
  (λ d. ⊎_elim (λ (z : p.depth ≡ 0). absurd (let e = became_depth x l p b z in omega (arith, d, e))) (λ (n : p.depth ≢ 0). omega (arith, n)) (cases_eq p.depth 0)),
)
