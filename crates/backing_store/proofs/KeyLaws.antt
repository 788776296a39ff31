-- What a map has after one of its keys was written.
use Rattle.std.proofs.Common.{◌≡◌, ℕ, ◌==◌, ◌&&◌, Bool, true, false, if◌then◌else◌, Option, Some, unwrap_or, refl}
use Rattle.sgx_types.specs.declared.names.Page.{Page}
use Rattle.sgx_types.specs.Pages.{same_page}
use Rattle.backing_store.specs.declared.page_places.PageCounts.{PageCounts}
use Rattle.backing_store.specs.inner.Places.{same_put, put_key, no_counts}

unwrap_or-if : {X : Type 0} (b : Bool) (x d : X) (o : Option X)
    → unwrap_or (if b then Some x else o) d ≡ (if b then x else unwrap_or o d)
unwrap_or-if true x d o = refl
unwrap_or-if false x d o = refl

-- the counts of a page
pub counts_read : (page g : Page) (new : PageCounts) (had has : Option PageCounts)
    → has ≡ (if same_page page g then Some new else had)
    → unwrap_or has no_counts ≡ (if same_page page g then new else unwrap_or had no_counts)
counts_read page g new had has read = rw read (unwrap_or-if (same_page page g) new no_counts had)

-- the place of a put
pub place_read : (page g : Page) (n m nth place : ℕ) (had had' has : Option ℕ) → n ≡ m → had ≡ had'
    → has ≡ (if same_put (put_key page n) (put_key g nth) then Some place else had)
    → has ≡ (if same_page page g && (m == nth) then Some place else had')
place_read page g n m nth place had had' has same kept read = rw (read, same, kept) refl
