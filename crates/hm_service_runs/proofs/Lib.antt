mod RunsTold
