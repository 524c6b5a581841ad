use Rattle.std.specs.Prelude.{◌≡◌, ◌<◌, ◌+◌, ◌⊎◌}
use Rattle.oc_base.specs.declared.rank.Rank.{Rank}

-- rank a precedes rank b: its epoch is greater, or the epochs are the same and its depth is smaller
abbrev pub Precedes : Rank → Rank → Type 0
Precedes a b = (b.epoch < a.epoch) ⊎ ((a.epoch ≡ b.epoch) × (a.depth < b.depth))

-- the rank of a child: the same epoch, and a depth greater by one
abbrev pub beneath_of : Rank → Rank
beneath_of a = record { epoch = a.epoch; depth = a.depth + 1 }
