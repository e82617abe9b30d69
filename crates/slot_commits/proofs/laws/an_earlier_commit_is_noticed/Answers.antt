use Rattle.slot_commits.proofs.Damaged.{told_cut_off}
use Rattle.slot_commits.proofs.laws.an_earlier_commit_is_noticed.Goals as goal

pub returns : goal.returns
returns c = λ number copy s slot tail notice before image stands damaged none counts is. told_cut_off number s before image stands damaged none slot tail copy notice counts is
