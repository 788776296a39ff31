use Rattle.std.proofs.Common.{◌≡◌, ◌-◌, List, [], ◌∷◌, ◌++◌, length, ap, ◌∙◌, arith}
use Rattle.std.specs.Global.{Vec}
use Rattle.std.proofs.lemmas.List.{length-map}
use Rattle.job_grammar.specs.declared.jobs.Op.{Op}
use Rattle.job_grammar.specs.inner.Jobs.{script_ops}
use Rattle.job_text.proofs.LastItem.{length-change_last}
use Rattle.job_text.proofs.ScriptLaws.{tells-more}
use Rattle.job_text.proofs.scripts.Scripts.add.Goals as goal

pub overflow_sub-last : goal.overflow_sub-last
overflow_sub-last c =
    let some = rw (← c.self.view_is) at c.requires.some in
    let same = length-change_last (λ (script : List Op). script ++ c.args.op ∷ []) (script_ops c.self.inside.scripts.items) in
    let added = ap (λ (ss : List (List Op)). length ss) c.in_ok-add_op.ensures.added in
    let all = length-map c.add_op.new.scripts.items (λ (script : Vec Op). script.items) in
    omega (arith, c.len-last.ensures, c.add_op.new.scripts.ok.0, all, added, same, some)

pub overflow_cast-last : goal.overflow_cast-last
overflow_cast-last c =
    let same = length-change_last (λ (script : List Op). script ++ c.args.op ∷ []) (script_ops c.self.inside.scripts.items) in
    let added = ap (λ (ss : List (List Op)). length ss) c.in_ok-add_op.ensures.added in
    let all = length-map c.add_op.new.scripts.items (λ (script : Vec Op). script.items) in
    omega (arith, c.len-last.ensures, c.add_op.new.scripts.ok.0, all, added, same, c.self.invariant.few)

pub invariant_of-self-2 : goal.invariant_of-self-2
invariant_of-self-2 c =
    let some = rw (← c.self.view_is) at c.requires.some in
    let own = rw (← c.self.view_is) at c.requires.own in
    let same = length-change_last (λ (script : List Op). script ++ c.args.op ∷ []) (script_ops c.self.inside.scripts.items) in
    let added = ap (λ (ss : List (List Op)). length ss) c.in_ok-add_op.ensures.added in
    let all = length-map c.add_op.new.scripts.items (λ (script : Vec Op). script.items) in
    let end : c.len-last.result - 1 ≡ length (script_ops c.self.inside.scripts.items) - 1 =
    omega (arith, c.len-last.ensures, c.add_op.new.scripts.ok.0, all, added, same) in
    record {
      sized = c.note.ensures.length ∙ c.self.invariant.sized;
      few = rw (c.in_ok-add_op.ensures.added, same) c.self.invariant.few;
      tells = λ enclave number low small. rw c.in_ok-add_op.ensures.added
          (tells-more c.self.inside.owners.items c.note.new.owners.items (script_ops c.self.inside.scripts.items) c.args.op enclave number
          (c.len-last.result - 1) some end (own enclave number) (c.self.invariant.tells enclave number low small)
          (c.note.ensures.noted enclave number small));
    }
