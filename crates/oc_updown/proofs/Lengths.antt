-- The lengths of lists of ends and of waiting certificates after each call.
use Rattle.std.proofs.Common.{◌≡◌, ℕ, ◌+◌, ◌-◌, ◌≤◌, Bool, true, false, Option, Some, None, List, [], ◌∷◌, length, refl, ◌∙◌, arith, length-set}
use Rattle.std.proofs.lemmas.List.{length-drop, length_push}
use Rattle.oc_base.specs.declared.cert.Cert.{Cert}
use Rattle.oc_model.specs.ChangeLog.{note, ack, is_ahead}
use Rattle.oc_model.specs.Node.{Log}
use Rattle.oc_model.specs.Numbers.{at}
use Rattle.oc_model.specs.Table.{leased_children}
use Rattle.oc_model.specs.Leases.{renew, start_if, start_each, start_all}

-- a lease that begins anew
pub length_of_renewed : (ends : List (Option ℕ)) (x now : ℕ) → length (renew ends x now) ≡ length ends
length_of_renewed ends x now = length-set ends (x - 1) (Some (now + 30))

-- a lease that begins if no end is set
length_if_started : (o : Option ℕ) (ends : List (Option ℕ)) (x now : ℕ) → length (start_if o ends x now) ≡ length ends
length_if_started None ends x now = length_of_renewed ends x now
length_if_started (Some t) ends x now = refl

-- the leases of these that have no end
length_of_each_started : (xs : List ℕ) (ends : List (Option ℕ)) (now : ℕ) → length (start_each xs ends now) ≡ length ends
length_of_each_started [] ends now = refl
length_of_each_started (x ∷ xs) ends now = length_of_each_started xs (start_if (at ends x None) ends x now) now ∙ length_if_started (at ends x None) ends x now

-- the leases of all children without an end
pub length_of_started : (t : List Cert) (y : ℕ) (ends : List (Option ℕ)) (now : ℕ) → length (start_all t y ends now) ≡ length ends
length_of_started t y ends now = length_of_each_started (leased_children t y) ends now

-- a certificate that is noted waits after the others
pub length_of_noted : (l : Log) (c : Cert) → length (note l c).waiting ≡ length l.waiting + 1
length_of_noted l c = length_push l.waiting c

-- an acknowledgement leaves at most the certificates that waited
pub length_of_acknowledged : (l : Log) (upto : ℕ) → length (ack l upto).waiting ≤ length l.waiting
length_of_acknowledged l upto = by_test (is_ahead l upto) refl where
  by_test : (b : Bool) → is_ahead l upto ≡ b → length (ack l upto).waiting ≤ length l.waiting
  by_test true e = rw e (omega (arith, length-drop (upto - l.acked) l.waiting))
  by_test false e = rw e (omega arith)
