use Rattle.audit_machine.proofs.OwnLaws.{comes_fresh, own_is_kept}
use Rattle.audit_machine.proofs.record_laws.kept_records_are_own.Goals as goal

pub returns : goal.returns
returns c = record {
  own = λ k s past records kept h keeps n start page rec opened loads is.
      own_is_kept k s past records h kept keeps n start page opened loads rec is;
  fresh = λ k s past records kept h keeps n start page version tag opened loads last.
      comes_fresh k s past records h kept keeps n start page opened loads version tag last;
}
