-- How processors stand, in the state, by the entries and in flat memory.
use Rattle.std.proofs.Common.{◌≡◌, ℕ, refl, sym, ap, ◌∙◌, Option, Some, None, List, is_some}
use Rattle.sgx_rules.specs.declared.entries.Entry.{Entry}
use Rattle.sgx_types.specs.declared.names.Page.{Page}
use Rattle.sgx_rules.specs.Processors.{Stay, stay}
use Rattle.sgx_rules.specs.Flat.{flat, is_inside_by}
use Rattle.sgx_rules.specs.Sights.{enclave_of_stay}
use Rattle.machine_laws.specs.inner.State.{State, seat_enclave, is_seated_by}
use Rattle.machine_laws.specs.inner.Stands.{Stands, inside_of_stay}
use Rattle.machine_laws.specs.inner.Columns.{seat_of_stay}
use Rattle.machine_laws.proofs.ColumnLaws.{inside_flat, inside_is}

is_some-seat : (o : Option Stay) → is_some (seat_of_stay o) ≡ is_some o
is_some-seat None = refl
is_some-seat (Some t) = refl

is_some-inside : (o : Option Stay) → is_some (inside_of_stay o) ≡ is_some o
is_some-inside None = refl
is_some-inside (Some t) = refl

pub mode_by_entries : (s : State) (past : List Entry) → Stands s past → (p : ℕ) → is_some (s.inside p) ≡ is_some (stay past p)
mode_by_entries s past stands p = ap is_some (inside_is stands.columns p) ∙ is_some-seat (stay past p)

pub mode_in_flat : (s : State) (past : List Entry) → Stands s past → (p : ℕ) → is_some (s.inside p) ≡ is_some ((flat past).cpus p).inside
mode_in_flat s past stands p = mode_by_entries s past stands p ∙ sym (ap is_some (inside_flat stands p) ∙ is_some-inside (stay past p))

pub enclave_by_entries : (o : Option Stay) → seat_enclave (seat_of_stay o) ≡ enclave_of_stay o
enclave_by_entries None = refl
enclave_by_entries (Some t) = refl

seated_same : (o : Option Stay) (g : Page) → is_seated_by (seat_of_stay o) g ≡ is_inside_by (inside_of_stay o) g
seated_same None g = refl
seated_same (Some t) g = refl

pub seated_in_flat : (s : State) (past : List Entry) → Stands s past → (p : ℕ) (g : Page)
    → is_seated_by (s.inside p) g ≡ is_inside_by ((flat past).cpus p).inside g
seated_in_flat s past stands p g = ap (λ o. is_seated_by o g) (inside_is stands.columns p) ∙ seated_same (stay past p) g
    ∙ sym (ap (λ o. is_inside_by o g) (inside_flat stands p))
