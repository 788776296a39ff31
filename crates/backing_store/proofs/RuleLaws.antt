-- A store that was made no call of may be handed other plan lines.
use Rattle.std.proofs.Common.{◌≡◌, List, [], ◌∷◌, length, count_by, arith, reverse, refl, sym, subst}
use Rattle.std.proofs.lemmas.List.{length-reverse}
use Rattle.std.specs.Global.{Vec}
use Rattle.sgx_types.specs.Sealed.{Sealed}
use Rattle.io_edges.specs.declared.plans.PlanLine.{PlanLine}
use Rattle.backing_store.specs.declared.calls.StoreCall.{StoreCall}
use Rattle.backing_store.specs.declared.calls.StoreCall.TheVariants.{Room, Put, Got}
use Rattle.backing_store.specs.declared.ledger.Ledger.{Ledger}
use Rattle.backing_store.specs.inner.Store.{is_put, AreByRule}
use Rattle.backing_store.specs.inner.Told.{told_of}
use Rattle.backing_store.specs.inner.Kept.{IsKeptByRule}
use Rattle.backing_store.proofs.CallLaws.{one_put_more}

-- where no call is told, none was made
none_told : (calls : List StoreCall) (puts : List Sealed) → told_of calls puts ≡ [] → length puts ≡ count_by is_put calls → calls ≡ []
none_told [] puts told each = refl
none_told (Room page failed ∷ calls) puts told each = absurd cc
none_told (Put page failed ∷ calls) [] told each = absurd (omega (arith, each, one_put_more page failed calls))
none_told (Put page failed ∷ calls) (rec ∷ puts) told each = absurd cc
none_told (Got page answer ∷ calls) puts told each = absurd cc

pub with_plans-kept : (l : Ledger) (plans : Vec PlanLine) → IsKeptByRule l → told_of (reverse l.calls.items) (reverse l.puts.items) ≡ []
    → IsKeptByRule (record l { plans = plans })
with_plans-kept l plans kept told =
    let none : reverse l.calls.items ≡ [] = none_told (reverse l.calls.items) (reverse l.puts.items) told
    (omega (arith, length-reverse l.puts.items, l.puts.ok.0, kept.kept.counted.are_puts)) in
    let P : List StoreCall → Type 0 = λ calls. AreByRule plans.items calls in
    record {
      kept = record {
        counted = kept.kept.counted;
        room = record {
          calls = kept.kept.room.calls;
          puts = kept.kept.room.puts;
          known =
              kept.kept.room.known;
        };
      };
      by_rule = subst P (sym none) tt;
    }
