use Rattle.std.proofs.Common.{◌++◌, ◌∙◌, ap, ℕ, List, Vec, Global, map}
use Rattle.std.proofs.lemmas.List.{map-append}
use Rattle.store_commits.specs.Copying.{target_of}
use Rattle.store_commits.specs.Given.{bytes_each}
use Rattle.store_commits.specs.Inside.{answered, given}
use Rattle.store_commits.proofs.Given.{framed_of, given_of}
use Rattle.store_commits.proofs.segment.commit_segment.Goals as goal

pub returns-clause-answered : goal.returns-clause-answered
returns-clause-answered g c = λ s a left slots b stored same part.
    let segment = c.args.segment in
    let fate = c.commit-fate.result in
    let frames = c.args.committed.now.frames.items in
    let is = c.commit-fate.ensures.answered s a left slots b stored same part in (
      map (answered fate) segment.replies.items,
      c.say.ensures.said,
      ap bytes_each c.give.ensures.given ∙ map-append (λ (v : Vec ℕ Global). v.items) frames (given fate segment.each.items)
          ∙ ap (λ (ls : List (List ℕ)). bytes_each frames ++ ls)
          (given_of a left segment slots b part g.D.SectorDevice.disk c.args.journal.now s (target_of c.args.copy.now) fate c.commit-fate.new.journal (target_of c.commit-fate.new.copy) same is),
      framed_of a left segment slots b part g.D.SectorDevice.disk c.args.journal.now s (target_of c.args.copy.now) fate c.commit-fate.new.journal (target_of c.commit-fate.new.copy) same is,
      is,
    )
