-- The first free frame of the EPC is the least one of the state.
use Rattle.std.proofs.Common.{◌≡◌, ℕ, suc, ◌+◌, ◌<◌, cond, refl, sym, ap, ◌∙◌, arith, Option, Some, None, List, []}
use Rattle.std.proofs.Common.{◌∷◌, length, get_or, add-zero}
use Rattle.std.specs.List.{position, position_from}
use Rattle.std.specs.Option.{option_map}
use Rattle.std.proofs.lemmas.Iterator.Adapters.{position_from-zero}
use Rattle.sgx_types.specs.declared.names.Frame.{Frame}
use Rattle.sgx_types.specs.declared.names.Kind.TheVariants as kinds
use Rattle.sgx_rules.specs.Frames.{Content, free_from, least_free}
use Rattle.sgx_rules.specs.Frames as frames
use Rattle.epcm_entry.specs.declared.entry_view.EntryView.{EntryView}
use Rattle.epcm_entry.specs.declared.entry_view.EntryView.TheVariants as views
use Rattle.epcm_entry.specs.inner.EntryView.{is_free}
use Rattle.epcm_entry.specs.inner.Epc.{EpcFrame, free_frame, entry_at, is_free_frame, first_free_of}
use Rattle.epcm_entry.specs.inner.Sights.{held}
use Rattle.sgx_machine.proofs.Columns.{get_or-default}

pub free_held : (v : EntryView) → frames.is_free (held v) ≡ is_free v
free_held views.Free = refl
free_held (views.Loading page) = refl
free_held (views.Valid page kinds.Secs perm blocked sealing) = refl
free_held (views.Valid page kinds.Tcs perm blocked sealing) = refl
free_held (views.Valid page kinds.Reg perm blocked sealing) = refl
free_held (views.Valid page kinds.Va perm blocked sealing) = refl

-- from a number on, by what each frame holds, and by the list of frames
free_from-position : (xs : List EpcFrame) (holds : ℕ → Content) (n : ℕ)
    → ((i : ℕ) (d : EpcFrame) → i < length xs → holds (n + i) ≡ held (get_or xs i d).entry)
    → free_from holds n (length xs) ≡ position_from is_free_frame n xs
free_from-position [] holds n h = refl
free_from-position (x ∷ xs) holds n h =
    let here : holds n ≡ held x.entry = rw add-zero at (h 0 x (omega arith)) in
    rw (here, free_held x.entry)
    (ap (λ o. cond (is_free x.entry) (Some n) o) (free_from-position xs holds (n + 1)
    (λ i d low. let e : (n + 1) + i ≡ n + suc i = omega arith in rw e (h (suc i) d (omega arith)))))

frame_number : (o : Option ℕ) → option_map (λ (f : Frame). f.0) (option_map (λ (n : ℕ). (let f : Frame = record { 0 = n } in f)) o) ≡ o
frame_number None = refl
frame_number (Some n) = refl

pub first_free_is : (epc : List EpcFrame) → option_map (λ (f : Frame). f.0) (first_free_of epc) ≡ least_free (length epc)
    (λ n. held (entry_at epc n))
first_free_is epc =
    frame_number (position is_free_frame epc) ∙ position_from-zero is_free_frame epc
    ∙ sym (free_from-position epc (λ n. held (entry_at epc n)) 0
    (λ i d low. let e : 0 + i ≡ i = omega arith in rw e (ap (λ (x : EpcFrame). held x.entry) (get_or-default epc i free_frame d low))))
