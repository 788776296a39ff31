-- What an enclave and its pages may be: the enclave's range and number, and a page's kind, permissions, first bytes and place.
use Rattle.std.specs.Prelude.{ℕ, ◌==◌, ◌+◌, ◌/◌, ◌%◌, ◌^◌, ◌&&◌, ◌||◌, Bool, true, false, not, nat_le, nat_lt}
use Rattle.std.specs.Int.{is_power_of_two}
use Rattle.sgx_types.specs.declared.lawful.PageInit.{PageInit}
use Rattle.sgx_types.specs.declared.lawful.PageInit.TheVariants as inits
use Rattle.sgx_types.specs.declared.names.Kind.{Kind}
use Rattle.sgx_types.specs.declared.names.Kind.TheVariants as kinds
use Rattle.sgx_types.specs.declared.names.Perm.{Perm}

-- a size is a power of two from two pages to 4096 pages, in bytes
abbrev pub is_lawful_size : ℕ → Bool
is_lawful_size size = is_power_of_two size && nat_le 8192 size && nat_le size (2 ^ 24)

-- a base is a multiple of the size
abbrev pub is_lawful : ℕ → ℕ → Bool
is_lawful base size = is_lawful_size size && (base % size == 0)

abbrev pub is_enclave : ℕ → Bool
is_enclave enclave = nat_le 1 enclave && nat_le enclave 8

-- a kind that can be added, with the first bytes of that kind
abbrev pub is_addable : Kind → PageInit → Bool
is_addable kinds.Tcs (inits.Tcs ossa nssa) = true
is_addable kinds.Reg (inits.Words value) = true
is_addable _ _ = false

abbrev pub has_no_perm : Perm → Bool
has_no_perm perm = not perm.r && not perm.w && not perm.x

-- W without R never, and a TCS has no permission
abbrev pub is_lawful_perm : Kind → Perm → Bool
is_lawful_perm kinds.Tcs perm = has_no_perm perm
is_lawful_perm _ perm = perm.r || not perm.w

-- the page, and a TCS's state save frames, of which there is one, lie in the enclave
abbrev pub is_within : ℕ → ℕ → PageInit → Bool
is_within size number (inits.Words value) = nat_lt number (size / 4096)
is_within size number (inits.Tcs ossa nssa) = nat_lt number (size / 4096) && nat_le (ossa + nssa) (size / 4096) && not (nssa == 0)
