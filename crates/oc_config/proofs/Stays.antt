-- Parts that stay where settings are taken over.
use Rattle.std.proofs.Common.{◌≡◌, ℕ, ◌≤◌, Bool, true, false, Option, Some, None, Ok, List, length, refl, ap, arith, not, if◌then◌else◌}
use Rattle.std.specs.Prelude.{◌==◌, nat_lt}
use Rattle.std.specs.Str.{bytes_eq}
use Rattle.std.proofs.lemmas.Bool.Decides.{nat_tests}
use Rattle.std.proofs.lemmas.Slice.Eq.{bytes_eq-Decides}
use Rattle.oc_config.specs.Changes.{Stays, config_change, keeps_areas, keeps_nodes, listen_at, same_presence, same_text, taken_over}
use Rattle.oc_config.specs.Settings.{Settings}
use Rattle.oc_config.specs.declared.change.Running.{Running}
use Rattle.oc_config.specs.declared.config_key.ConfigKey.TheVariants.{Nodes, Chain, Chunk, NodeKey, Listen, Area}

-- settings that passed each test were taken over
record PassedAll (nodes chain chunk keyed listen areas : Bool) (new taken : Settings) : Type 0 where
  nodes_is : nodes ≡ true
  chain_is : chain ≡ true
  chunk_is : chunk ≡ true
  keyed_is : keyed ≡ true
  listen_is : listen ≡ true
  areas_is : areas ≡ true
  same : taken ≡ new

passed_all : (nodes chain chunk keyed listen areas : Bool) (new taken : Settings)
    → taken_over new (if not nodes then Some Nodes else if not chain then Some Chain else if not chunk then Some Chunk else if not keyed then Some NodeKey else if not listen then Some Listen else if not areas then Some Area else None) ≡ Ok taken
    → PassedAll nodes chain chunk keyed listen areas new taken
passed_all false chain chunk keyed listen areas new taken is = cc
passed_all true false chunk keyed listen areas new taken is = cc
passed_all true true false keyed listen areas new taken is = cc
passed_all true true true false listen areas new taken is = cc
passed_all true true true true false areas new taken is = cc
passed_all true true true true true false new taken is = cc
passed_all true true true true true true new taken is = record {
  nodes_is = refl;
  chain_is = refl;
  chunk_is = refl;
  keyed_is = refl;
  listen_is = refl;
  areas_is = refl;
  same = cc is;
}

same_number : (a b : ℕ) → (a == b) ≡ true → a ≡ b
same_number a b is = grind (arith, nat_tests)

no_less : (a b : ℕ) → not (nat_lt b a) ≡ true → a ≤ b
no_less a b is = grind (arith, nat_tests)

same_bytes : (a b : List ℕ) → bytes_eq a b ≡ true → a ≡ b
same_bytes a b is = (bytes_eq-Decides a b).0 is

texts_same : (a b : Option (List ℕ)) → same_text a b ≡ true → a ≡ b
texts_same None None is = refl
texts_same None (Some y) is = cc
texts_same (Some x) None is = cc
texts_same (Some x) (Some y) is = ap Some (same_bytes x y is)

-- the greatest id does not fall, with or without a record
more_nodes : (recorded : Bool) (a b : ℕ) → (if recorded then a == b else not (nat_lt b a)) ≡ true → a ≤ b
more_nodes true a b is = let same = same_number a b is in omega (arith, same)
more_nodes false a b is = no_less a b is

recorded_nodes : (recorded : Bool) (a b : ℕ) → recorded ≡ true → (if recorded then a == b else not (nat_lt b a)) ≡ true → a ≡ b
recorded_nodes true a b on is = same_number a b is
recorded_nodes false a b on is = cc

recorded_areas : (recorded : Bool) (a b : List ℕ) → recorded ≡ true → (if recorded then bytes_eq a b else true) ≡ true → a ≡ b
recorded_areas true a b on is = same_bytes a b is
recorded_areas false a b on is = cc

pub change_keeps : (r : Running) (old new taken : Settings) → config_change r old new ≡ Ok taken → (taken ≡ new) × Stays r old new
change_keeps r old new taken is =
    let all = passed_all (keeps_nodes r (length old.addresses) (length new.addresses)) (old.chain == new.chain) (old.chunk == new.chunk) (same_presence old.keys new.keys)
    (same_text (listen_at r.me old) (listen_at r.me new)) (keeps_areas r old.areas new.areas) new taken is in (
      all.same,
      record {
        chain = same_number old.chain new.chain all.chain_is;
        chunk = same_number old.chunk new.chunk all.chunk_is;
        nodes = more_nodes r.recorded (length old.addresses) (length new.addresses) all.nodes_is;
        keyed = all.keyed_is;
        listen = texts_same (listen_at r.me old) (listen_at r.me new) all.listen_is;
        recorded = λ recorded. (recorded_nodes r.recorded (length old.addresses) (length new.addresses) recorded all.nodes_is, recorded_areas r.recorded old.areas new.areas recorded all.areas_is);
      },
    )
