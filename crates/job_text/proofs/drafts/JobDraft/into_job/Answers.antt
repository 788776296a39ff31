use Rattle.std.proofs.Common.{◌≡◌, Option, ℕ, ap, ◌∙◌, unwrap_or}
use Rattle.job_text.specs.Drafts.{Draft, job_of}
use Rattle.job_text.proofs.ValidLaws.{whole-valid}
use Rattle.job_text.proofs.drafts.JobDraft.into_job.Goals as goal

pub new-requires : goal.new-requires
new-requires c =
    let given = c.in_default.ensures in
    let valid = whole-valid c.args.after c.args.self (job_of given.0 c.args.self) c.requires given.2 in
    let epc : c.unwrap_or-epc.result ≡ given.0 = c.unwrap_or-epc.ensures
    ∙ ap (λ (o : Option ℕ). unwrap_or o 0) (ap (λ (d : Draft). d.epc) c.self.view_is ∙ given.1) in
    rw (c.in_ok-parts.ensures, epc) valid
