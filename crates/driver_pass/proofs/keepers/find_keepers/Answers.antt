use Rattle.std.proofs.Common.{ℕ, ◌≡◌, Bool, List, [], ◌∷◌, ◌++◌, length, refl, subst, sym, ◌<◌, ◌∙◌, arith}
use Rattle.std.proofs.Common.{rules}
use Rattle.sgx_machine.specs.inner.Parts.{cpu_at}
use Rattle.std.proofs.lemmas.List.{length-append}
use Rattle.sgx_types.specs.declared.names.Cpu.{Cpu}
use Rattle.driver_pass.specs.inner.Keeping.{is_older, keepers_by}
use Rattle.driver_pass.proofs.KeeperLaws.{found_more, found_same}
use Rattle.driver_pass.proofs.keepers.find_keepers.Goals as goal
use Rattle.driver_pass.proofs.keepers.find_keepers.Goals.{then-is_older, else-is_older}

pub loop-number-preserved : goal.loop-number-preserved
loop-number-preserved c =
    let test : ℕ → Bool = λ p. is_older (cpu_at c.args.machine.now p).mode c.args.enclave c.args.epoch in
    let low : c.loop-number.number < length c.args.machine.now.cpus =
    subst (λ (n : ℕ). c.loop-number.number < n) c.cpus-number-end.ensures.value c.loop-number-test.true in
    let all : List ℕ = keepers_by c.args.machine.now c.args.enclave c.args.epoch in
    elim c.if-is_older.branch [
      | then-is_older w ↦
          let cpu : Cpu = record { 0 = c.loop-number.number } in
          let more : c.if-is_older.found.items ≡ c.loop-number.found.items ++ cpu ∷ [] = cc in
          record {
            list = found_more test c.loop-number.found.items c.if-is_older.found.items cpu c.loop-number.number
                (length c.args.machine.now.cpus) all more refl low (sym c.is_older.ensures ∙ w.if-is_older.true)
                c.loop-number.invariant.list;
            few = rw more (simp length-append (omega arith));
            capacity = search rules;
          }
      | else-is_older w ↦
          let stay : c.if-is_older.found.items ≡ c.loop-number.found.items = cc in
          record {
            list = found_same test c.loop-number.found.items c.if-is_older.found.items c.loop-number.number
                (length c.args.machine.now.cpus) all stay low (sym c.is_older.ensures ∙ w.if-is_older.false)
                c.loop-number.invariant.list;
            few = rw stay (omega arith);
            capacity = search rules;
          }
    ]
