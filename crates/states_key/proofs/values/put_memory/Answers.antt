use Rattle.std.proofs.Common.{◌≡◌, List, ℕ, ap, ◌∙◌, rules, length}
use Rattle.std.proofs.Math.Seq.{paste}
use Rattle.std.proofs.lemmas.Slice.{put_mid-paste}
use Rattle.states_key.proofs.Padding.{stretch_put}
use Rattle.states_key.proofs.values.put_memory.Goals as goal

pub returns : goal.returns
returns c =
    let a = c.args in
    let eight : length a.memory ≡ 8 = search rules in λ l size held.
    put_mid-paste a.n _ a.values.now _ a.memory 8 c.copy_from_slice.ensures.after (search rules) (search rules)
    ∙ ap (λ (v : List ℕ). paste v a.n a.memory 8) held ∙ stretch_put l a.memory a.n size eight c.requires
