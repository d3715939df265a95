-- What the forms in memory are seen as.
use Rattle.std.specs.Prelude.{ℕ, List}

-- a keeper: its pairs, the calls that are to fail, how many calls came, how many failed
pub record KeeperState : Type 0 where
  pub pairs : List (List ℕ × List ℕ)
  pub failing : List ℕ
  pub calls : ℕ
  pub faults : ℕ

-- a sink: what was written, its room, the calls that are to fail, how many calls came, how many failed
pub record SinkState : Type 0 where
  pub written : List ℕ
  pub room : ℕ
  pub failing : List ℕ
  pub calls : ℕ
  pub faults : ℕ

-- a folder: its files, the newest first, the names asked for, the calls that are to fail, how many calls came, how many failed
pub record FolderState : Type 0 where
  pub files : List (List ℕ × List ℕ)
  pub asked : List (List ℕ)
  pub failing : List ℕ
  pub calls : ℕ
  pub faults : ℕ
