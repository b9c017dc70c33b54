-- The sizes, places and limits of document 01, "The sheet in 512-byte blocks", and of document 02, item 3, each named once.
use Rattle.std.specs.Prelude.{ℕ, ◌+◌, ◌-◌, ◌*◌, ◌/◌, ◌%◌}

-- a block, and the bytes of it that are no check
abbrev pub block_bytes : ℕ
block_bytes = 512

abbrev pub content_bytes : ℕ
content_bytes = 510

-- what a check is taken modulo
abbrev pub modulus : ℕ
modulus = 65521

-- block 0: where its numbers stand, and the zero bytes up to the first variable record
abbrev pub edition_offset : ℕ
edition_offset = 0

abbrev pub node_count_offset : ℕ
node_count_offset = 2

abbrev pub variable_count_offset : ℕ
variable_count_offset = 4

abbrev pub header_gap : ℕ
header_gap = 5

abbrev pub header_bytes : ℕ
header_bytes = 8

abbrev pub header_gap_bytes : ℕ
header_gap_bytes = header_bytes - header_gap

abbrev pub most_variables : ℕ
most_variables = 16

-- a variable's record: after min come max, the name's length, a zero byte and the name
abbrev pub variable_bytes : ℕ
variable_bytes = 24

abbrev pub max_offset : ℕ
max_offset = 2

abbrev pub name_size_offset : ℕ
name_size_offset = 4

abbrev pub zero_offset : ℕ
zero_offset = 5

abbrev pub name_start : ℕ
name_start = 6

abbrev pub most_name_bytes : ℕ
most_name_bytes = 16

-- where the bytes of the longest name end, and the bytes from a name's start to its record's end
abbrev pub name_end : ℕ
name_end = name_start + most_name_bytes

abbrev pub name_field : ℕ
name_field = variable_bytes - name_start

-- a node's record: after the kind come a zero byte, a, b, c and the value; the rest is zero
abbrev pub node_bytes : ℕ
node_bytes = 16

abbrev pub spare_offset : ℕ
spare_offset = 1

abbrev pub a_offset : ℕ
a_offset = 2

abbrev pub b_offset : ℕ
b_offset = 4

abbrev pub c_offset : ℕ
c_offset = 6

abbrev pub value_offset : ℕ
value_offset = 8

abbrev pub spare_start : ℕ
spare_start = 10

-- the node records of a block
abbrev pub nodes_in_block : ℕ
nodes_in_block = 31

-- the most nodes of a sheet (document 02, item 3): what reads it takes it as its first argument, `limit`
abbrev pub most_nodes : ℕ
most_nodes = 1984

-- the blocks that n nodes take, the last one perhaps in part
abbrev pub blocks_for : ℕ → ℕ
blocks_for n = (n + (nodes_in_block - 1)) / nodes_in_block

-- the bytes of a sheet of n nodes: block 0 and the node blocks
abbrev pub sheet_bytes : ℕ → ℕ
sheet_bytes n = block_bytes * (blocks_for n + 1)

-- the blocks and the bytes of the longest sheet
abbrev pub most_blocks : ℕ
most_blocks = blocks_for most_nodes + 1

abbrev pub most_sheet_bytes : ℕ
most_sheet_bytes = sheet_bytes most_nodes

-- where the record of variable i and that of node n stand
abbrev pub variable_place : ℕ → ℕ
variable_place i = header_bytes + variable_bytes * i

abbrev pub node_place : ℕ → ℕ
node_place n = block_bytes * (n / nodes_in_block + 1) + node_bytes * (n % nodes_in_block)
