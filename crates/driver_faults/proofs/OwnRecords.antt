-- The end of a load by the page's own record is not refused.
use Rattle.std.proofs.Common.{◌≡◌, ℕ, true, false, List, Option, None, Some, MatchOption, refl, ap}
use Rattle.std.proofs.lemmas.Slice.Eq.{bytes_eq-Decides}
use Rattle.std.specs.Str.{bytes_eq}
use Rattle.sgx_types.specs.declared.names.Actor.{Actor}
use Rattle.sgx_rules.specs.declared.entries.Entry.{Entry}
use Rattle.sgx_types.specs.declared.names.Frame.{Frame}
use Rattle.sgx_types.specs.declared.record.Header.{Header}
use Rattle.sgx_rules.specs.declared.refusals.Refusal.{Refusal}
use Rattle.sgx_types.specs.Sealed.{Sealed}
use Rattle.sgx_types.specs.Cases.{first_of_row}
use Rattle.seal_record.specs.Cipher.{tag}
use Rattle.seal_record.specs.inner.Row.{eld_row}
use Rattle.seal_record.proofs.HeaderLaws.{same_header-refl}
use Rattle.machine_laws.specs.inner.State.{State}
use Rattle.machine_laws.specs.inner.Steps.{IsReloaded, commit_row}
use Rattle.driver_rules.specs.inner.Reclaims.{is_refused}

same_bytes : (xs : List ℕ) → bytes_eq xs xs ≡ true
same_bytes xs = (bytes_eq-Decides xs xs).1 refl

-- no case of the row holds of a record that has the page's header, and the tag that is computed of it
own_row : (rec : Sealed) (computed : List ℕ) (header : Header) → rec.header ≡ header → rec.tag ≡ computed
    → first_of_row (eld_row rec computed (Some header)) ≡ None
own_row rec computed header headed tagged =
    rw (tagged, headed, same_bytes computed, same_header-refl header) refl

row_done : (o : Option Refusal) (X : Type 0) (Y : Refusal → Type 0) → o ≡ None → MatchOption o X Y → X
row_done None X Y none row = row
row_done (Some refusal) X Y none row = cc

pub own_record : (s t : State) (a : Actor) (f : Frame) (rec : Sealed) (e : Entry) (is : IsReloaded s a f rec e t)
    → rec.header ≡ is.coming.header → rec.tag ≡ tag s.key is.coming.start.version rec.header rec.cipher → is_refused e.event ≡ false
own_record s t a f rec e is headed tagged =
    ap (λ (x : Entry). is_refused x.event) (row_done (first_of_row (commit_row s f.0 is.coming rec)) _ _ none is.row).0
  where
    none : first_of_row (commit_row s f.0 is.coming rec) ≡ None
    none = own_row rec (tag s.key is.coming.start.version rec.header rec.cipher) is.coming.header headed tagged
