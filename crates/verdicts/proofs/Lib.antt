mod FirstRow
