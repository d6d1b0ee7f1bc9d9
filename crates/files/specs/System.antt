-- The system's numbers of open files. Definitions only.
use Rattle.std.specs.Prelude.{ℤ, negsuc, Option, None, Some}
use Rattle.std.specs.Fd.{file_raw_fd}
use Rattle.std.specs.declared.fs.File.{File}

-- the number of an open file, -1 where there is none
abbrev pub number_of : Option File → ℤ
number_of None = negsuc 0
number_of (Some file) = file_raw_fd file
