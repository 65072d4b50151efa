-- The version that a host sees: its three parts, and all of them as one number.
use Rattle.std.specs.Prelude.{ℕ, ◌+◌, ◌*◌}

-- the macros LATEENBAEL_VERSION_MAJOR, _MINOR and _PATCH of host/lateenbael.h are the same numbers
abbrev pub major : ℕ
major = 0

abbrev pub minor : ℕ
minor = 4

abbrev pub patch : ℕ
patch = 0

abbrev pub version : ℕ
version = major * 1000000 + minor * 1000 + patch
