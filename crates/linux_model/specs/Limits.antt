-- Numbers of Linux, of its headers for RISC-V, and this machine's limits.
use Rattle.std.specs.Prelude.{ℕ, ◌-◌, ◌^◌, ◌==◌, Bool, ◌||◌, not, bit_and, nat_lt}

-- errno(3): a call answers minus the number, as a word
abbrev pub minus : ℕ → ℕ
minus errno = 2 ^ 64 - errno

abbrev pub ENOENT : ℕ
ENOENT = minus 2

abbrev pub E2BIG : ℕ
E2BIG = minus 7

abbrev pub ENOEXEC : ℕ
ENOEXEC = minus 8

abbrev pub EBADF : ℕ
EBADF = minus 9

abbrev pub ECHILD : ℕ
ECHILD = minus 10

abbrev pub EAGAIN : ℕ
EAGAIN = minus 11

abbrev pub ENOMEM : ℕ
ENOMEM = minus 12

abbrev pub EACCES : ℕ
EACCES = minus 13

abbrev pub EFAULT : ℕ
EFAULT = minus 14

abbrev pub EEXIST : ℕ
EEXIST = minus 17

abbrev pub ENOTDIR : ℕ
ENOTDIR = minus 20

abbrev pub EISDIR : ℕ
EISDIR = minus 21

abbrev pub EINVAL : ℕ
EINVAL = minus 22

abbrev pub ENFILE : ℕ
ENFILE = minus 23

abbrev pub EMFILE : ℕ
EMFILE = minus 24

abbrev pub EFBIG : ℕ
EFBIG = minus 27

abbrev pub ENOSPC : ℕ
ENOSPC = minus 28

abbrev pub ESPIPE : ℕ
ESPIPE = minus 29

abbrev pub ENAMETOOLONG : ℕ
ENAMETOOLONG = minus 36

abbrev pub ENOSYS : ℕ
ENOSYS = minus 38

-- signal(7): a write to a pipe that nobody reads
abbrev pub SIGPIPE : ℕ
SIGPIPE = 13

abbrev pub SIGCHLD : ℕ
SIGCHLD = 17

-- open(2)
abbrev pub O_WRONLY : ℕ
O_WRONLY = 1

abbrev pub O_CREAT : ℕ
O_CREAT = 0x40

abbrev pub O_EXCL : ℕ
O_EXCL = 0x80

abbrev pub O_TRUNC : ℕ
O_TRUNC = 0x200

abbrev pub O_APPEND : ℕ
O_APPEND = 0x400

abbrev pub O_CLOEXEC : ℕ
O_CLOEXEC = 0x80000

-- the flags that openat takes: the access mode (two bits), O_LARGEFILE (0x8000) and those above
abbrev pub OPEN_FLAGS : ℕ
OPEN_FLAGS = 0x886c3

-- the word for the working directory, which is the root
abbrev pub AT_FDCWD : ℕ
AT_FDCWD = 2 ^ 64 - 100

-- whether flags have one of them
abbrev pub has : ℕ → ℕ → Bool
has flags flag = bit_and flags flag == flag

-- the access mode: 0 reads, 1 writes, 2 does both, 3 is no mode
abbrev pub mode_of : ℕ → ℕ
mode_of flags = bit_and flags 3

-- no flag, or O_CLOEXEC and no other
abbrev pub is_cloexec_alone : ℕ → Bool
is_cloexec_alone flags = flags == 0 || flags == O_CLOEXEC

-- a word that is a negative number
abbrev pub is_negative : ℕ → Bool
is_negative word = not (nat_lt word (2 ^ 63))

-- the word for any child, -1, of wait4(2)
abbrev pub ANY : ℕ
ANY = 2 ^ 64 - 1

-- ---- limits

-- descriptors of a process
abbrev pub DESCRIPTORS : ℕ
DESCRIPTORS = 64

-- open file descriptions in all
abbrev pub DESCRIPTIONS : ℕ
DESCRIPTIONS = 1024

-- processes in all, zombies counted
abbrev pub PROCESSES : ℕ
PROCESSES = 64

-- files in all, those without a name counted
abbrev pub FILES : ℕ
FILES = 1024

-- bytes of a path, its closing 0 counted
abbrev pub PATH_BYTES : ℕ
PATH_BYTES = 4096

-- bytes of a name
abbrev pub NAME_BYTES : ℕ
NAME_BYTES = 255

-- bytes that a pipe holds
abbrev pub PIPE_BYTES : ℕ
PIPE_BYTES = 65536

-- pipe(7): as many bytes, or fewer, go into a pipe at once
abbrev pub PIPE_BUF : ℕ
PIPE_BUF = 4096

-- pieces of readv(2) and writev(2)
abbrev pub VECTOR_PIECES : ℕ
VECTOR_PIECES = 1024

-- runs of mapped pages with equal permissions, and mapped pages, of a process
abbrev pub RUNS : ℕ
RUNS = 256

abbrev pub PAGES : ℕ
PAGES = 16384

-- bytes of one mapping by mmap(2)
abbrev pub MAPPING_BYTES : ℕ
MAPPING_BYTES = 67108864
