-- Worked examples of the bytes that a connection is given.
use Rattle.std.specs.Prelude.{◌≡◌, ℕ, true, false, None, Some, List, [], ◌∷◌, ◌++◌, codes}
use Rattle.oc_link.specs.Traffic.{given}
use Rattle.oc_http.specs.declared.framing.Persistence.TheVariants.{Keep}
use Rattle.oc_model.specs.Node.{new_node}
use Rattle.oc_model.specs.declared.input.Input.TheVariants as inputs
use Rattle.oc_routes.specs.Refusals.{refusal_text}
use Rattle.oc_routes.specs.Tallies.{first_tally}
use Rattle.oc_routes.specs.declared.asker.Asker.TheVariants.{HeadAlone}
use Rattle.oc_routes.specs.declared.hint.Hint.TheVariants.{Of, Plain}
use Rattle.oc_routes.specs.declared.manner.Manner.TheVariants.{Follow, Once}
use Rattle.oc_routes.specs.declared.refused.Refused.TheVariants.{Query}
use Rattle.oc_routes.specs.declared.routes.Operation.TheVariants as asks
use Rattle.oc_routes.specs.declared.verdict.Refusal.{Refusal}
use Rattle.oc_select.specs.declared.selection.Selection.TheVariants.{Part, Whole}
use Rattle.oc_deeds.specs.Deeds.{Accepts, BreaksOff, Deed, Gives, Permits, Refuses, Replies, Running, Setting, after_all, calls_of}
use Rattle.oc_deeds.specs.Examples.{first_about, two_nodes}
use Rattle.oc_deeds.specs.Replying.{IsOrdered, replied_all, text_or_none}
use Rattle.oc_deeds.specs.declared.log.Log.TheVariants.{Inputs}
use Rattle.oc_deeds.specs.declared.work.Transfer.{Transfer}

-- node 1 of 2, which holds three bytes of a group
abbrev node_one : Setting
node_one = record {
  me = 1;
  log = Inputs;
}

abbrev holds_three : Running
holds_three = record {
  node = record (new_node (record { nodes = 2; chain = 1; chunk = 4096; areas = 0 ∷ 0 ∷ [] }) 1) { groups = record { name = codes "/a"; bytes = codes "abc"; sealed = false } ∷ [] };
  outbox = [];
  works = [];
  dials = [];
  config = two_nodes;
  tally = first_tally 2;
  about = first_about;
}

-- a deed that promises a client six bytes of a group on connection 8
abbrev head_of_six : Deed
head_of_six = Replies
    (record { connection = 8; count = 40; asked = record { operation = asks.Client (codes "/a") 0 0 Follow; hint = Of 6; selection = Whole }; last = false; told = true; waited = false })
    (record { text = codes "200:"; content = Some (record { start = 0; count = 6; chunked = false }); connection = Keep })
    5

-- the transfer after the first three bytes
abbrev other_three : Transfer
other_three = record { connection = 8; content = record { group = codes "/a"; at = 3; end = 6; chunked = false }; keeps = true; told = true; since = 5 }

-- three bytes are given, three more are published, and given
abbrev six : List Deed
six = head_of_six ∷ Accepts (inputs.Publish (codes "/a") (codes "def")) ∷ Gives other_three 9 ∷ []

-- deeds after which the connection is broken off
abbrev cut_off : List Deed
cut_off = head_of_six ∷ Accepts (inputs.Publish (codes "/a") (codes "def")) ∷ BreaksOff 8 ∷ []

-- a request is refused on the same connection, which is kept, and a client is given the second of the three bytes before those six
abbrev no_such_query : Refusal
no_such_query = record { why = Query; asker = HeadAlone; kept = Some 30 }

abbrev part : Deed
part = Replies
    (record { connection = 8; count = 50; asked = record { operation = asks.Client (codes "/a") 0 0 Once; hint = Plain; selection = Part 1 1 }; last = false; told = true; waited = false })
    (record { text = codes "206:"; content = Some (record { start = 1; count = 1; chunked = false }); connection = Keep })
    5

abbrev three_requests : List Deed
three_requests = Refuses 8 90 no_such_query ∷ part ∷ six

abbrev refusal_given : List ℕ
refusal_given = text_or_none (refusal_text no_such_query)

abbrev is_given : ℕ → List Deed → List ℕ → Type 0
is_given c deeds text = given c (calls_of node_one deeds holds_three) ≡ text

abbrev is_owed : ℕ → List Deed → List ℕ → Type 0
is_owed c deeds text = replied_all c deeds (after_all deeds holds_three).node.groups ≡ text

pub record AreReplied : Type 0 where
  pub ordered : IsOrdered node_one [] six holds_three
  pub whole : is_given 8 six (codes "200:abcdef")
  pub owed : is_owed 8 six (codes "200:abcdef")
  pub other : is_owed 7 six []
  pub cut : is_given 8 cut_off (codes "200:abc")
  pub owed_then : is_owed 8 cut_off (codes "200:abcdef")
  pub one_after_another : IsOrdered node_one [] three_requests holds_three
  pub all_given : is_given 8 three_requests (refusal_given ++ codes "206:b200:abcdef")
  pub all_owed : is_owed 8 three_requests (refusal_given ++ codes "206:b200:abcdef")
  pub permission : is_owed 8 (Permits 8 ∷ six) (codes "HTTP/1.1 100 Continue\r\n\r\n200:abcdef")
