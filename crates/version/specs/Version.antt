-- The version of this library, as one number.
use Rattle.std.specs.Prelude.{ℕ, ◌+◌, ◌*◌}

-- 256 times the major number plus the minor one: 1.3
abbrev pub version : ℕ
version = 256 * 1 + 3
