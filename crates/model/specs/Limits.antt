-- The limits of a block file (document 01, "The block file"; document 02, K2, K3 and K10), each by its name. A file is held to them by `decode` and `Limited` (File) alone; elsewhere they say how much room an array has and how large a number can be.
use Rattle.std.specs.Prelude.{ℕ, ◌*◌, ◌-◌}

-- editions of the block file are numbered from 1 to this
abbrev pub max_edition : ℕ
max_edition = 3

-- gates of a block, at most ("the gate limit becomes 200", document 02, K10)
abbrev pub max_gates : ℕ
max_gates = 200

-- wires of a block, at most ("and the wire limit 600")
abbrev pub max_wires : ℕ
max_wires = 600

-- steps of a gate, at most
abbrev pub max_steps : ℕ
max_steps = 8

-- a probability is in 256ths: this is certainty
abbrev pub max_probability : ℕ
max_probability = 256

-- drawn delay of a gate, in ticks, at most
abbrev pub max_delay : ℕ
max_delay = 4095

-- delay of a wire, in ticks, at most
abbrev pub max_wire_delay : ℕ
max_wire_delay = 4095

-- width of a step, in ticks, at most
abbrev pub max_width : ℕ
max_width = 4095

-- drop of a step, at most
abbrev pub max_drop : ℕ
max_drop = 1000

-- arrival and deadline, in ticks, at most
abbrev pub max_time : ℕ
max_time = 65535

-- bytes of an input that the printing program reads ("the program reads 16,384 bytes")
abbrev pub max_bytes : ℕ
max_bytes = 16384

-- pairs of a curve, at most ("1,600 pairs, the most there can be"): each pair ends some gate's step
abbrev pub max_pairs : ℕ
max_pairs = max_gates * max_steps

-- ticks of all steps of a block, at most: no list needs more
abbrev pub max_ticks : ℕ
max_ticks = max_pairs * max_width

-- activity of a net, transitions in 65,536 clock cycles, at most
abbrev pub max_activity : ℕ
max_activity = 65535

-- gain of a pair, at most ("a pair's gain is now at most 199 × 65,535 × 1,000")
abbrev pub max_gain : ℕ
max_gain = (max_gates - 1) * max_activity * max_drop
