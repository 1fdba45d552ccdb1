-- Bytes put into a text at a place.
use Rattle.std.specs.Prelude.{◌≡◌, List, ◌++◌, ℕ, ◌+◌, ◌≤◌, length, take, drop}

-- `bytes` put into `before` from index `at` on: the place behind them, and the text after it where they fit
pub record Put (before : List ℕ) (at : ℕ) (bytes after : List ℕ) (end : ℕ) : Type 0 where
  pub is_end : end ≡ at + length bytes
  pub long : length after ≡ length before
  pub is_put : end ≤ length before → after ≡ take at before ++ bytes ++ drop end before
