-- Worked examples of the reports of nodes.
use Rattle.std.specs.Prelude.{◌≡◌, ℕ, true, false, Some, None, List, [], ◌∷◌, ◌++◌, codes}
use Rattle.oc_base.specs.declared.cert.Cert.{Cert}
use Rattle.oc_base.specs.declared.shelf.Shelf.{Shelf}
use Rattle.oc_model.specs.declared.answer.Answer.TheVariants.{Redirect, Serve}
use Rattle.oc_model.specs.declared.input.Input.TheVariants.{CheckNow, Tick}
use Rattle.oc_model.specs.declared.mode.Mode.TheVariants.{Acting, Joined}
use Rattle.oc_model.specs.Node.{Control, new_control}
use Rattle.oc_routes.specs.Json.{number_text}
use Rattle.oc_routes.specs.Metrics.{metrics_text}
use Rattle.oc_routes.specs.Sights.{AboutView, Sight}
use Rattle.oc_routes.specs.Status.{status_text}
use Rattle.oc_routes.specs.Tallies.{TallyView, first_tally, known_before, with_answer, with_news, with_refused, with_reply, with_sender, with_sent}
use Rattle.oc_routes.specs.declared.tally.MessageFault.TheVariants.{Mac, Message}

-- node 1 of five, new
abbrev new_one : Control
new_one = new_control (record { nodes = 5; chain = 1; chunk = 4096; areas = 0 ∷ 0 ∷ 0 ∷ 0 ∷ 0 ∷ [] }) 1

-- a certificate that x, at its first ask, is beneath y
abbrev born : ℕ → ℕ → Cert
born x y = record { subject = x; seq = 1; parent = y; dead = false; number = 0; clients = 0 }

-- node 1 acts as root, and has one child, 2, whose lease ends at second 40; beneath that 3 is dead, and 4 was beneath 3
abbrev acting : Control
acting = record new_one {
  kept = record new_one.kept {
    mode = Acting;
    rank = Some (record { epoch = 3; depth = 0 });
    number = 2;
    clients = 7;
    table = record (born 2 1) { number = 1; clients = 9007199254740993 } ∷ record (born 3 2) { seq = 2; dead = true } ∷ born 4 3 ∷ [];
  };
  soft = record new_one.soft { clock = 12 };
  leases = None ∷ Some 40 ∷ None ∷ None ∷ None ∷ [];
  rates = 0 ∷ 1200 ∷ 0 ∷ 0 ∷ 0 ∷ [];
}

-- node 1 is joined to 5, which is beneath 2, and has told it one of three certificates
abbrev joined : Control
joined = record new_one {
  kept = record new_one.kept { mode = Joined 5; seq = 2; rank = Some (record { epoch = 3; depth = 2 }); log = record { length = 3; acked = 1; waiting = born 3 1 ∷ born 4 1 ∷ [] }; ancestors = 5 ∷ 2 ∷ [] };
}

abbrev shelf : List Shelf
shelf = record { group = codes "/a"; held = 5; sealed = true } ∷ record { group = codes "/b"; held = 0; sealed = false } ∷ []

-- version 1.0.0, started at 2026-12-01T00:00:00Z
abbrev about : AboutView
about = record { version = codes "1.0.0"; started = 1796083200; refused = false }

-- a node of five that has counted nothing yet, of which no node has a name or an address
abbrev seen : Control → Sight
seen n = record {
  node = n;
  shelf = [];
  messages = 0;
  ids = 5;
  addresses = None ∷ None ∷ None ∷ None ∷ None ∷ [];
  names = None ∷ None ∷ None ∷ None ∷ None ∷ [];
  retired = false ∷ false ∷ false ∷ false ∷ false ∷ [];
  tally = first_tally 5;
  about = about;
}

-- what the root counted: a client was served the head of a reply and three bytes more, and another one was refused; messages were refused; 2 was
-- heard of at second 9, and 3 at second 11, when it was told to be dead
abbrev counted : TallyView
counted =
    with_news (Some (born 2 1 ∷ born 3 2 ∷ born 4 3 ∷ [])) (born 2 1 ∷ record (born 3 2) { dead = true } ∷ born 4 3 ∷ []) 11
    (with_sender (Some 2) 9 (with_refused Message (with_refused Mac (with_refused Mac
    (with_reply (codes "HTTP/1.1 404 Not Found\r\n\r\n") (with_sent 3 (with_reply (codes "HTTP/1.1 200 OK\r\n\r\n") (with_answer (Serve 3) (first_tally 5)))))))))

-- the root with its groups, with names of 1 and 2, while 4 is retired and 5 has an address and no row; its configuration's file was refused
abbrev looked_at : Sight
looked_at = record (seen acting) {
  shelf = shelf;
  messages = 3;
  addresses = Some (codes "a:1") ∷ Some (codes "b:2") ∷ Some (codes "c:3") ∷ None ∷ Some (codes "e:5") ∷ [];
  names = Some (codes "Berlin") ∷ Some (codes "Oslo, 2") ∷ None ∷ Some (codes "old") ∷ Some (codes "new") ∷ [];
  retired = false ∷ false ∷ false ∷ true ∷ false ∷ [];
  tally = counted;
  about = record about { refused = true };
}

-- the metrics of that root: its place, its counts, its groups and its outbox
abbrev state_lines : List ℕ
state_lines =
    codes "# HELP overcast_up The node answers.\n# TYPE overcast_up gauge\novercast_up 1\n"
    ++ codes "# HELP overcast_acting The node acts as root.\n# TYPE overcast_acting gauge\novercast_acting 1\n"
    ++ codes "# HELP overcast_joined The node is joined to a parent.\n# TYPE overcast_joined gauge\novercast_joined 0\n"
    ++ codes "# HELP overcast_listed_nodes Nodes listed beneath this node.\n# TYPE overcast_listed_nodes gauge\novercast_listed_nodes 1\n"
    ++ codes "# HELP overcast_table_rows Rows of the table.\n# TYPE overcast_table_rows gauge\novercast_table_rows 3\n"
    ++ codes "# HELP overcast_children Leased children.\n# TYPE overcast_children gauge\novercast_children 1\n"
    ++ codes "# HELP overcast_clients Clients counted by this node.\n# TYPE overcast_clients gauge\novercast_clients 7\n"
    ++ codes "# HELP overcast_certificates_waiting Certificates not acknowledged by the parent.\n# TYPE overcast_certificates_waiting gauge\novercast_certificates_waiting 0\n"
    ++ codes "# HELP overcast_group_bytes Bytes held of a group.\n# TYPE overcast_group_bytes gauge\novercast_group_bytes{group=\"/a\"} 5\novercast_group_bytes{group=\"/b\"} 0\n"
    ++ codes "# HELP overcast_group_sealed Whether a group is sealed.\n# TYPE overcast_group_sealed gauge\novercast_group_sealed{group=\"/a\"} 1\novercast_group_sealed{group=\"/b\"} 0\n"
    ++ codes "# HELP overcast_outbox_messages Messages waiting to be sent.\n# TYPE overcast_outbox_messages gauge\novercast_outbox_messages 3\n"

-- the nodes of its network
abbrev node_lines : List ℕ
node_lines =
    codes "# HELP overcast_node_up Whether a node is listed; told by an acting node.\n# TYPE overcast_node_up gauge\n"
    ++ codes "overcast_node_up{node=\"1\",name=\"Berlin\"} 1\novercast_node_up{node=\"2\",name=\"Oslo, 2\"} 1\n"
    ++ codes "overcast_node_up{node=\"3\"} 0\novercast_node_up{node=\"5\",name=\"new\"} 0\n"
    ++ codes "# HELP overcast_node_last_heard_seconds Seconds since a node was heard of.\n# TYPE overcast_node_last_heard_seconds gauge\n"
    ++ codes "overcast_node_last_heard_seconds{node=\"2\",name=\"Oslo, 2\"} 3\novercast_node_last_heard_seconds{node=\"3\"} 1\n"

-- its replies to clients
abbrev reply_lines : List ℕ
reply_lines =
    codes "# HELP overcast_sent_bytes_total Bytes of replies to clients.\n# TYPE overcast_sent_bytes_total counter\novercast_sent_bytes_total 48\n"
    ++ codes "# HELP overcast_requests_total Replies to clients.\n# TYPE overcast_requests_total counter\n"
    ++ codes "overcast_requests_total{status=\"200\"} 1\novercast_requests_total{status=\"206\"} 0\novercast_requests_total{status=\"301\"} 0\n"
    ++ codes "overcast_requests_total{status=\"302\"} 0\novercast_requests_total{status=\"304\"} 0\novercast_requests_total{status=\"400\"} 0\n"
    ++ codes "overcast_requests_total{status=\"401\"} 0\novercast_requests_total{status=\"403\"} 0\novercast_requests_total{status=\"404\"} 1\n"
    ++ codes "overcast_requests_total{status=\"405\"} 0\novercast_requests_total{status=\"409\"} 0\novercast_requests_total{status=\"411\"} 0\n"
    ++ codes "overcast_requests_total{status=\"412\"} 0\novercast_requests_total{status=\"413\"} 0\novercast_requests_total{status=\"416\"} 0\n"
    ++ codes "overcast_requests_total{status=\"431\"} 0\novercast_requests_total{status=\"501\"} 0\novercast_requests_total{status=\"503\"} 0\n"

-- what else it counted
abbrev other_lines : List ℕ
other_lines =
    codes "# HELP overcast_refused_messages_total Messages of nodes that were refused.\n# TYPE overcast_refused_messages_total counter\n"
    ++ codes "overcast_refused_messages_total{cause=\"mac\"} 2\novercast_refused_messages_total{cause=\"message\"} 1\n"
    ++ codes "# HELP overcast_clients_total Clients served since the start.\n# TYPE overcast_clients_total counter\novercast_clients_total 1\n"

-- and the program
abbrev program_lines : List ℕ
program_lines =
    codes "# HELP overcast_groups_limit The most groups that a node holds.\n# TYPE overcast_groups_limit gauge\novercast_groups_limit 64\n"
    ++ codes "# HELP overcast_start_time_seconds When the node started, in seconds since 1970.\n# TYPE overcast_start_time_seconds gauge\novercast_start_time_seconds 1796083200\n"
    ++ codes "# HELP overcast_build_info The version of the program.\n# TYPE overcast_build_info gauge\novercast_build_info{version=\"1.0.0\"} 1\n"
    ++ codes "# HELP overcast_configuration_refused Whether the configuration's file was refused when it was read last.\n# TYPE overcast_configuration_refused gauge\novercast_configuration_refused 1\n"

pub record AreTold : Type 0 where
  pub new_node :
      status_text (seen new_one)
      ≡ codes "{\"node\":1,\"nodes\":5,\"chain\":1,\"chunk\":4096,\"mode\":\"idle\",\"parent\":null,\"seq\":0,\"rank\":null,\"clock\":0,"
      ++ codes "\"log\":{\"length\":0,\"acked\":0},\"number\":0,\"clients\":0,\"ancestors\":[],\"groups\":[],\"table\":[],\"children\":[],"
      ++ codes "\"name\":null,\"missing\":[],\"version\":\"1.0.0\",\"started\":1796083200,\"groups_limit\":64,\"served\":0,\"sent\":0,"
      ++ codes "\"refused\":{\"mac\":0,\"message\":0},\"configuration\":\"good\"}\n"
  -- a retired node that is not listed is left out
  pub root :
      status_text looked_at
      ≡ codes "{\"node\":1,\"nodes\":5,\"chain\":1,\"chunk\":4096,\"mode\":\"acting\",\"parent\":null,\"seq\":0,\"rank\":\"3.0\",\"clock\":12,"
      ++ codes "\"log\":{\"length\":0,\"acked\":0},\"number\":2,\"clients\":7,\"ancestors\":[],"
      ++ codes "\"groups\":[{\"name\":\"/a\",\"bytes\":5,\"sealed\":true},{\"name\":\"/b\",\"bytes\":0,\"sealed\":false}],"
      ++ codes "\"table\":[{\"node\":2,\"parent\":1,\"seq\":1,\"up\":true,\"number\":1,\"clients\":\"9007199254740993\",\"name\":\"Oslo, 2\",\"heard\":3,\"listed\":true},"
      ++ codes "{\"node\":3,\"parent\":2,\"seq\":2,\"up\":false,\"number\":0,\"clients\":0,\"name\":null,\"heard\":1,\"listed\":false}],"
      ++ codes "\"children\":[{\"node\":2,\"lease\":40,\"rate\":1200}],"
      ++ codes "\"name\":\"Berlin\",\"missing\":[{\"node\":5,\"name\":\"new\"}],\"version\":\"1.0.0\",\"started\":1796083200,\"groups_limit\":64,"
      ++ codes "\"served\":1,\"sent\":48,\"refused\":{\"mac\":2,\"message\":1},\"configuration\":\"refused\"}\n"
  pub joined_node :
      status_text (seen joined)
      ≡ codes "{\"node\":1,\"nodes\":5,\"chain\":1,\"chunk\":4096,\"mode\":\"joined\",\"parent\":5,\"seq\":2,\"rank\":\"3.2\",\"clock\":0,"
      ++ codes "\"log\":{\"length\":3,\"acked\":1},\"number\":0,\"clients\":0,\"ancestors\":[5,2],\"groups\":[],\"table\":[],\"children\":[],"
      ++ codes "\"name\":null,\"missing\":[],\"version\":\"1.0.0\",\"started\":1796083200,\"groups_limit\":64,\"served\":0,\"sent\":0,"
      ++ codes "\"refused\":{\"mac\":0,\"message\":0},\"configuration\":\"good\"}\n"
  pub last_exact : number_text 9007199254740992 ≡ codes "9007199254740992"
  pub past_it : number_text 9007199254740993 ≡ codes "\"9007199254740993\""
  -- a redirection serves nobody; neither does a tick that changes no row make a node heard of, nor an input that can change none
  pub redirected : with_answer (Redirect 2) (first_tally 5) ≡ first_tally 5
  pub nothing_new : with_news (known_before (Tick 7) (born 2 1 ∷ [])) (born 2 1 ∷ []) 7 (first_tally 5) ≡ first_tally 5
  pub no_row_to_change : known_before CheckNow (born 2 1 ∷ []) ≡ None
  pub metrics : metrics_text looked_at ≡ state_lines ++ node_lines ++ reply_lines ++ other_lines ++ program_lines
