use Rattle.std.proofs.Common.{◌≡◌, ◌∙◌, ℕ, List, replicate, sym}
use Rattle.std.proofs.lemmas.List.{length-replicate}
use Rattle.std.specs.Array.{AllZipBelow}
use Rattle.std.specs.List.{each_same}
use Rattle.std.proofs.lemmas.List.Elements.{same_from_all_zip, All-replicate}
use Rattle.epcm_entry.specs.declared.entry_view.EntryView.TheVariants.{Free}
use Rattle.epcm_entry.specs.inner.Words.{IsPage}
use Rattle.epcm_entry.proofs.Words.{zero_word, zero_page, zeros-page}
use Rattle.epcm_entry.proofs.Frames.{new_frames, new_marks}
use Rattle.epcm_entry.proofs.epc.Epc.new.Goals as goal

pub invariant_of-result : goal.invariant_of-result
invariant_of-result c =
    let entries : c.in_ok-vec.field-0.items ≡ replicate c.args.frames Free = c.in_ok-vec.ensures.items_if_clones_equal (λ y e. e) in
    let pages : c.in_ok-vec-2.field-0.items ≡ replicate c.args.frames (replicate 512 zero_word) =
    c.in_ok-vec-2.ensures.items_if_clones_equal (λ y e.
    same_from_all_zip (λ (a b : List ℕ). AllZipBelow (λ (m n : ℕ). n ≡ m) a b 8) _ _ e.whole (λ a b f. each_same a b f.whole)) in
    record {
      small = rw (entries, length-replicate) c.requires;
      paged = rw (entries, pages) (length-replicate c.args.frames (replicate 512 zero_word) ∙ sym (length-replicate c.args.frames Free));
      pages = rw pages (All-replicate IsPage c.args.frames (replicate 512 zero_word) zero_page);
      marked = rw entries (c.in_ok-full.ensures ∙ new_marks c.args.frames);
    }

pub returns : goal.returns
returns c =
    let entries : c.in_ok-vec.field-0.items ≡ replicate c.args.frames Free = c.in_ok-vec.ensures.items_if_clones_equal (λ y e. e) in
    let pages : c.in_ok-vec-2.field-0.items ≡ replicate c.args.frames (replicate 512 zero_word) =
    c.in_ok-vec-2.ensures.items_if_clones_equal (λ y e.
    same_from_all_zip (λ (a b : List ℕ). AllZipBelow (λ (m n : ℕ). n ≡ m) a b 8) _ _ e.whole (λ a b f. each_same a b f.whole)) in
    rw (entries, pages) (new_frames c.args.frames (replicate 512 zero_word) zeros-page)
