-- The frame that an enclave's state names is of the EPC.
use Rattle.std.proofs.Common.{◌≡◌, ℕ, ◌<◌, Some, sym}
use Rattle.sgx_types.specs.declared.names.Frame.{Frame}
use Rattle.sgx_rules.specs.Frames.{Content, is_secs_of, secs_frame}
use Rattle.sgx_types.proofs.LeastLaws.{is_least}

pub secs_within : (frames : ℕ) (held : ℕ → Content) (e : ℕ) (f : Frame) → Some f.0 ≡ secs_frame frames held e → f.0 < frames
secs_within frames held e f is = (is_least (λ n. is_secs_of (held n) e) frames f.0 (sym is)).below
