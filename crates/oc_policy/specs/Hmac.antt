-- HMAC-SHA-256: RFC 2104, section 2, over SHA-256 (FIPS 180-4). Keys and texts are lists of bytes.
use Rattle.std.specs.Prelude.{ℕ, ◌-◌, nat_le, if◌then◌else◌, List, ◌++◌, length, map, replicate, bit_xor}
use Rattle.sha2.specs.Sha256.{sha256}

-- the key, hashed first where it is longer than a block of 64 bytes
abbrev pub short_key : List ℕ → List ℕ
short_key key = if nat_le (length key) 64 then key else sha256 key

-- the key as a block, which zeros at the end fill up
abbrev pub key_block : List ℕ → List ℕ
key_block key = short_key key ++ replicate (64 - length (short_key key)) 0

-- the block of the key, each byte XOR one byte
abbrev pub masked_key : ℕ → List ℕ → List ℕ
masked_key mask key = map (λ byte. bit_xor byte mask) (key_block key)

-- H (K XOR opad, H (K XOR ipad, text))
unfoldable pub hmac : List ℕ → List ℕ → List ℕ
hmac key text = sha256 (masked_key 0x5C key ++ sha256 (masked_key 0x36 key ++ text))
