use Rattle.std.proofs.Common.{◌∙◌, ◌++◌, ap, append_assoc}
use Rattle.lfm_shown.specs.Graphs.{key_text}
use Rattle.lfm_states.proofs.keys.write_key.Goals as goal

pub returns : goal.returns
returns c =
    let points = c.in_ok-write_points.ensures in
    (points.0, points.1 ∙ ap (λ l. l ++ points.0) c.in_ok-write_key_text.ensures.outcome ∙ append_assoc c.args.key.now.items (key_text c.args.state.now) points.0)
