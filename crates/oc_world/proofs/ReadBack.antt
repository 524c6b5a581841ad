-- The bytes of a message are read as that message.
use Rattle.std.proofs.Common.{◌≡◌, ℕ, ◌^◌, ◌<◌, ◌≤◌, List, Ok, Err, sym, ap, subst, ◌∙◌, arith, length-append, true, refl}
use Rattle.std.specs.Prelude.{codes, decimal}
use Rattle.std.specs.Char.{is_ascii_digit}
use Rattle.std.proofs.lemmas.Bool.Decides.{nat_tests}
use Rattle.std.proofs.lemmas.Fmt.{digits_decimal, length-decimal-le}
use Rattle.oc_base.specs.declared.limits.TheConstants.{MAX_NODES}
use Rattle.oc_http.specs.Writing.{IsHost, is_host_byte}
use Rattle.oc_base.proofs.Numerals.{numerals}
use Rattle.oc_http.proofs.Tests.{list_all-weaker}
use Rattle.oc_model.specs.declared.message.Message.{Message}
use Rattle.oc_model.specs.Lawful.{IsMessage}
use Rattle.oc_wire.specs.declared.fault.WireFault.{WireFault}
use Rattle.oc_wire.specs.declared.fault.WireFault.TheVariants as faults
use Rattle.oc_wire.specs.MessageReading.{Gives, decoded}
use Rattle.oc_wire.specs.Spelling.{spelling}
use Rattle.oc_wire.proofs.MessageReads.{is_its_spelling, is_read}
use Rattle.oc_world.specs.Net.{IsSpelled, host_of, message_in, message_or_look}

digit_host : (b : ℕ) → is_ascii_digit b ≡ true → is_host_byte b ≡ true
digit_host b passes = grind (arith, nat_tests)

-- a node's name is a host
pub good_host : (x : ℕ) → x < 2 ^ 32 → IsHost (host_of x)
good_host x few =
    let fits : x < 2 ^ 64 = omega (arith, few) in
    let short = length-decimal-le 20 x (omega arith) (omega arith) fits in
    record {
      some = omega (arith, length-append (codes "node") (decimal x));
      most = omega (arith, length-append (codes "node") (decimal x), short);
      bytes = list_all-weaker is_ascii_digit is_host_byte digit_host (decimal x) (digits_decimal numerals x fits);
    }

spelling_read : (nodes : ℕ) (m : Message) → nodes ≤ MAX_NODES → IsMessage nodes m → decoded nodes (spelling m) ≡ Ok m
spelling_read nodes m few lawful = is_read nodes (spelling m) m (omega (arith, few)) (is_its_spelling nodes m few lawful)

-- the bytes of a lawful message are read as it
pub read_back : (nodes : ℕ) (m : Message) → nodes ≤ MAX_NODES → IsMessage nodes m → message_in nodes (spelling m) ≡ m
read_back nodes m few lawful = ap message_or_look (spelling_read nodes m few lawful)

-- the bytes of a lawful message are bytes of the net
pub spelled : (nodes : ℕ) (m : Message) → nodes ≤ MAX_NODES → IsMessage nodes m → IsSpelled nodes (spelling m)
spelled nodes m few lawful = record {
  lawful = subst (IsMessage nodes) (sym (read_back nodes m few lawful)) lawful;
  exact = ap spelling (sym (read_back nodes m few lawful));
}

-- bytes of the net spell their message
pub spelled_read : (nodes : ℕ) (bytes : List ℕ) → nodes ≤ MAX_NODES → IsSpelled nodes bytes → decoded nodes bytes ≡ Ok (message_in nodes bytes)
spelled_read nodes bytes few is =
    let m = message_in nodes bytes in
    ap (decoded nodes) is.exact ∙ spelling_read nodes m few is.lawful

-- a fault where a message was to be given is one for lack of memory
pub given_err : (fault : WireFault) (m : Message) → Gives (Err fault) (Ok m) → fault ≡ faults.Memory
given_err faults.Memory m given = refl
given_err faults.Stranger m given = absurd cc
given_err (faults.Kind code) m given = absurd cc
given_err faults.Short m given = absurd cc
given_err faults.Value m given = absurd cc
given_err faults.Trailing m given = absurd cc

-- a message that was given is that message
pub given_ok : (n m : Message) → Gives (Ok n) (Ok m) → n ≡ m
given_ok n m given = cc
