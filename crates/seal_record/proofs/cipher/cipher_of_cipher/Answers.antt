use Rattle.seal_record.proofs.CipherLaws.{cipher_twice}
use Rattle.seal_record.proofs.cipher.cipher_of_cipher.Goals as goal

pub returns : goal.returns
returns c = cipher_twice
