use Rattle.std.proofs.Common.{sym, ◌∙◌}
use Rattle.doc_schema.proofs.FirstProfile.{faultless_stays, judged_alike}
use Rattle.doc_schema.proofs.laws.schemas_of_profile_1_stay.Goals as goal

pub returns-clause-accepted : goal.returns-clause-accepted
returns-clause-accepted c = faultless_stays

pub returns-clause-alike : goal.returns-clause-alike
returns-clause-alike c = λ schema f instance b. (λ h. sym (judged_alike schema f instance) ∙ h, λ h. judged_alike schema f instance ∙ h)
