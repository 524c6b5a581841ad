use Rattle.std.specs.Prelude.{◌≡◌, ℕ, Result, Ok, List, codes}
use Rattle.oc_schedule.specs.declared.fault.ScheduleFault.{ScheduleFault}
use Rattle.oc_base.specs.Steps.{◌>>=◌}
use Rattle.oc_schedule.specs.declared.scale.Scale.TheVariants.{Usual}
use Rattle.oc_schedule.specs.Schedule.{schedule_of}
use Rattle.oc_replay.specs.Replay.{report_of, summary_of}

-- The worked examples, from the text of a schedule to that of its report.

-- the report of the model for the schedule in a text
abbrev told : List ℕ → Result (List ℕ) ScheduleFault
told text = schedule_of Usual text >>= λ s. Ok (report_of s)

-- the summary of the model for the schedule in a text
abbrev summed : List ℕ → Result (List ℕ) ScheduleFault
summed text = schedule_of Usual text >>= λ s. Ok (summary_of s)

pub record AreTold : Type 0 where
  pub empty_schedule : told (codes "overcast 1 nodes 2 chain 1\n") ≡ Ok (codes "end 0 0\n")
  pub first_path :
      told (codes "overcast 1 nodes 2 chain 1\nup 1\nup 2\npublish 1 /a 68656c6c6f\npull 2 1\ndeliver 1\ndeliver 2\nheld 2\n")
      ≡ Ok (codes "#1 ok\n#2 ok\n#3 ok\n#4 ok\n  m1 2>1 fetch []\n#5 ok\n  m2 1>2 chunk /a 0 68656c6c6f\n#6 ok\n#7 ok\n  /a 5\nend 7 2\n")
  pub publish_elsewhere :
      told (codes "overcast 1 nodes 2 chain 1\nup 1\nup 2\npublish 1 /a -\npublish 2 /a 61\nheld 1\n")
      ≡ Ok (codes "#1 ok\n#2 ok\n#3 ok\n#4 notsource\n#5 ok\n  /a 0\nend 5 0\n")
  pub repeated_delivery :
      told (codes "overcast 1 nodes 2 chain 1\nup 1\nup 2\npublish 1 /a 68656c6c6f\npull 2 1\ndeliver 1\ndeliver 2\ndeliver 2\nheld 2\n")
      ≡ Ok (codes "#1 ok\n#2 ok\n#3 ok\n#4 ok\n  m1 2>1 fetch []\n#5 ok\n  m2 1>2 chunk /a 0 68656c6c6f\n#6 ok\n#7 ignored\n#8 ok\n  /a 5\nend 8 2\n")
  pub sealed_group :
      told (codes "overcast 1 nodes 2 chain 1\nup 1\nup 2\npublish 1 /a 6869\nseal 1 /a\npublish 1 /a 21\npull 2 1\ndeliver 1\ndeliver 2\nheld 2\npull 2 1\ndeliver 3\n")
      ≡ Ok (codes "#1 ok\n#2 ok\n#3 ok\n#4 ok\n#5 sealed\n#6 ok\n  m1 2>1 fetch []\n#7 ok\n  m2 1>2 chunk /a 0 6869 last\n#8 ok\n#9 ok\n  /a 2 sealed\n#10 ok\n  m3 2>1 fetch [/a@2!]\n#11 ok\nend 11 3\n")
  pub down_and_unknown :
      told (codes "overcast 1 nodes 2 chain 1\nup 1\nup 1\ntick 2 0\ndeliver 9\n")
      ≡ Ok (codes "#1 ok\n#2 up\n#3 down\n#4 nomessage\nend 4 0\n")
  pub torn_gate :
      told (codes "overcast 1 nodes 1 chain 1\nup 1\nstop 3 1 publish 1 /a 61\nup 1\nheld 1\nstop 3 0 publish 1 /a 62\nup 1\nheld 1\nstop 3 7 publish 1 /a 62\nup 1\nheld 1\n")
      ≡ Ok (codes "#1 ok\n#2 stopped new\n#3 ok\n#4 ok\n  /a 1\n#5 stopped old\n#6 ok\n#7 ok\n  /a 1\n#8 stopped old\n#9 ok\n#10 ok\n  /a 1\nend 10 0\n")
  pub heal :
      told (codes "overcast 1 nodes 3 chain 1\nup 1\nup 2\nup 3\nheal\nshow 1\n")
      ≡ Ok (codes "#1 ok\n#2 ok\n#3 ok\n#4 healed 37\n#5 ok\n  node 1 up acting seq 0 rank 3.0 log 0/0\n  ancestors []\n  table [2/1/1+ 3/1/1+]\n  listed [2<1 3<1]\nend 5 26\n")
  pub heal_summed :
      summed (codes "overcast 1 nodes 3 chain 1\nup 1\nup 2\nup 3\nheal\nshow 1\n")
      ≡ Ok (codes "events 5\nmessages 26\nup 3\njoined 2\nacting 1\nbytes 0\n")
  pub first_path_summed :
      summed (codes "overcast 1 nodes 2 chain 1\nup 1\nup 2\npublish 1 /a 68656c6c6f\npull 2 1\ndeliver 1\ndeliver 2\nheld 2\n")
      ≡ Ok (codes "events 7\nmessages 2\nup 2\njoined 0\nacting 0\nbytes 10\n")
