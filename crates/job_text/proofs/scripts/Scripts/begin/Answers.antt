use Rattle.std.proofs.Common.{sym, ◌∙◌, arith}
use Rattle.job_text.proofs.LastItem.{cpu-more}
use Rattle.job_text.proofs.ScriptLaws.{begun-tells}
use Rattle.job_text.proofs.scripts.Scripts.begin.Goals as goal

pub invariant_of-self-2 : goal.invariant_of-self-2
invariant_of-self-2 c =
    let before = rw (← c.self.view_is) at c.requires in
    let more = cpu-more c.self.inside.scripts.items c.new.result c.new.ensures.items in
    record {
      sized = c.self.invariant.sized;
      few = rw (c.in_ok-push.ensures.items, more.1) (omega (arith, before));
      tells = λ enclave number low small. rw c.in_ok-push.ensures.items (c.self.invariant.tells enclave number low small
          ∙ sym (begun-tells c.self.inside.scripts.items c.new.result enclave number c.new.ensures.items));
    }
